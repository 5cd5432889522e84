-- The tree of a module in the tables: each name stands behind those before it.
use Rattle.std.proofs.Common.{◌≡◌, ℕ, suc, ◌+◌, Bool, true, false, cond, leb, List, [], ◌++◌, length, take, drop, sym, refl, ap, ◌∙◌, ap₂, arith}
use Rattle.std.proofs.lemmas.List.{append_assoc, length-append, take_at, drop_at}
use Rattle.std.proofs.lemmas.Bool.{le-leb, cond-true}
use Rattle.tables.specs.Modules.{bytes_at}
use Rattle.tables.specs.declared.node.Place.{Place}
use Rattle.walk.specs.Trees as trees
use Rattle.walk.specs.Trees.{Tree, node, Forest, flat, flats}
use Rattle.grammar.specs.declared.label.Label.{Label}
use Rattle.grammar.specs.Forms.{Says, Form, form, Forms, nil, cons, size, sizes, names, all_names}
use Rattle.grammar.specs.Labels.{label_of}
use Rattle.printer.specs.Held.{held, helds}
use Rattle.form.proofs.Asked.{Asked, AllAsked, AllsAsked}
use Rattle.form.proofs.Tabs.{nowhere}

-- where a name stands behind b bytes
abbrev pub placed : Label → ℕ → List ℕ → Place
placed Label.Ident b n = record { at = b; len = length n }
placed Label.Name b n = record { at = b; len = length n }
placed l b n = nowhere

abbrev pub labelled : ℕ → Says → trees.Label
labelled b s = record { kind = s.kind; word = s.word; scope = s.scope; number = s.number; text = placed (label_of s.kind) b s.name; span = s.span }

abbrev mutual
  pub tabled : ℕ → Form → Tree
  tabled b (form s fs) = node (labelled b s) (tableds (b + length s.name) fs)

  pub tableds : ℕ → Forms → Forest
  tableds b nil = trees.nil
  tableds b (cons t fs) = trees.cons (tabled b t) (tableds (b + length (names t)) fs)

mutual
  pub length-flat : (t : Form) (b : ℕ) → length (flat (tabled b t)) ≡ size t
  length-flat (form s fs) b = ap suc (length-flats fs (b + length s.name))

  pub length-flats : (fs : Forms) (b : ℕ) → length (flats (tableds b fs)) ≡ sizes fs
  length-flats nil b = refl
  length-flats (cons t fs) b = length-append (flat (tabled b t)) (flats (tableds (b + length (names t)) fs)) ∙ ap₂ (λ m n. m + n) (length-flat t b) (length-flats fs (b + length (names t)))

-- a name is read where it stands
bytes_there : (text pre xs post : List ℕ) (b : ℕ) → text ≡ pre ++ (xs ++ post) → length pre ≡ b → bytes_at text (record { at = b; len = length xs }) ≡ xs
bytes_there text pre xs post b e h =
    let n : length text ≡ length pre + (length xs + length post) = ap length e ∙ length-append pre (xs ++ post) ∙ ap (λ k. length pre + k) (length-append xs post) in
    cond-true (leb (b + length xs) (length text)) (take (length xs) (drop b text)) [] (le-leb (b + length xs) (length text) (omega arith))
    ∙ ap (λ x. take (length xs) (drop b x)) e ∙ ap (take (length xs)) (drop_at pre (xs ++ post) b h) ∙ take_at xs post (length xs) refl

both_none : (c : Bool) → ◌≡◌ {A = List ℕ} (cond c [] []) []
both_none true = refl
both_none false = refl

bytes-nowhere : (text : List ℕ) → bytes_at text nowhere ≡ []
bytes-nowhere text = both_none (leb 0 (length text))

said_name : (l : Label) (s : Says) → Asked l s → (text pre post : List ℕ) (b : ℕ) → text ≡ pre ++ (s.name ++ post) → length pre ≡ b → bytes_at text (placed l b s.name) ≡ s.name
said_name Label.Ident s a text pre post b e h = bytes_there text pre s.name post b e h
said_name Label.Name s a text pre post b e h = bytes_there text pre s.name post b e h
said_name Label.Handle s a text pre post b e h = absurd a
said_name Label.Text s a text pre post b e h = absurd a
said_name Label.Truth s a text pre post b e h = absurd a
said_name l s a text pre post b e h = bytes-nowhere text ∙ sym a.3

abbrev named : Says → List ℕ → Says
named s n = record { kind = s.kind; word = s.word; scope = s.scope; number = s.number; name = n; span = s.span }

mutual
  pub held-form : (t : Form) → AllAsked t → (text pre post : List ℕ) (b : ℕ) → text ≡ pre ++ (names t ++ post) → length pre ≡ b → held text (tabled b t) ≡ t
  held-form (form s fs) a text pre post b e h =
      let f : text ≡ pre ++ (s.name ++ (all_names fs ++ post)) = e ∙ ap (λ x. pre ++ x) (append_assoc s.name (all_names fs) post) in
      let n : bytes_at text (placed (label_of s.kind) b s.name) ≡ s.name = said_name (label_of s.kind) s a.0 text pre (all_names fs ++ post) b f h in
      let g : text ≡ (pre ++ s.name) ++ (all_names fs ++ post) = f ∙ sym (append_assoc pre s.name (all_names fs ++ post)) in
      let k : length (pre ++ s.name) ≡ b + length s.name = length-append pre s.name ∙ ap (λ j. j + length s.name) h in
      ap₂ form (ap (named s) n) (held_forms fs a.1 text (pre ++ s.name) post (b + length s.name) g k)

  pub held_forms : (fs : Forms) → AllsAsked fs → (text pre post : List ℕ) (b : ℕ) → text ≡ pre ++ (all_names fs ++ post) → length pre ≡ b → helds text (tableds b fs) ≡ fs
  held_forms nil a text pre post b e h = refl
  held_forms (cons t fs) a text pre post b e h =
      let f : text ≡ pre ++ (names t ++ (all_names fs ++ post)) = e ∙ ap (λ x. pre ++ x) (append_assoc (names t) (all_names fs) post) in
      let g : text ≡ (pre ++ names t) ++ (all_names fs ++ post) = f ∙ sym (append_assoc pre (names t) (all_names fs ++ post)) in
      let k : length (pre ++ names t) ≡ b + length (names t) = length-append pre (names t) ∙ ap (λ j. j + length (names t)) h in
      ap₂ cons (held-form t a.0 text pre (all_names fs ++ post) b f h) (held_forms fs a.1 text (pre ++ names t) post (b + length (names t)) g k)
