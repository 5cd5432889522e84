-- How many nodes and bytes of a module are counted, whatever fits the tables.
use Rattle.std.proofs.Common.{◌≡◌, ℕ, ◌-◌, ◌^◌, ◌≤◌, min, List, [], ◌++◌, length, take, drop, refl, ap, ◌∙◌, arith}
use Rattle.std.proofs.lemmas.List.{append-nil, length-append, length-drop, length-take-le, length-set}
use Rattle.lex.specs.Written.{over}
use Rattle.lex.proofs.Overs.{length_over}
use Rattle.tables.specs.Modules.{node_at}
use Rattle.tables.specs.declared.kind.Kind.{Kind}
use Rattle.tables.specs.declared.kind.Word.{Word}
use Rattle.tables.specs.declared.node.Node.{Node}
use Rattle.grammar.specs.declared.label.Label.{Label}
use Rattle.grammar.specs.Forms.{Says, Form, form, Forms, nil, cons, size, sizes, names, all_names}
use Rattle.grammar.specs.Labels.{label_of}
use Rattle.grammar.specs.Parts.{Proper}
use Rattle.grammar.specs.Readings.{Items}
use Rattle.reader.specs.Machine.{sum, with_word, with_size, kept_at}
use Rattle.form.proofs.Asked.{Asked, AllAsked, AllsAsked, module_asked}
use Rattle.form.proofs.Tabs.{Tab, text_by, bytes_by, head_tab, by_word, name_tab, close_tab, tab_form, tab_forms, start_tab, module_tab}

-- the name of a function changes neither the counts nor the text
pub record Stays (τ τ' : Tab) : Type 0 where
  pub text : τ'.text ≡ τ.text
  pub count : τ'.count ≡ τ.count
  pub bytes : τ'.bytes ≡ τ.bytes
  pub room : length τ'.nodes ≡ length τ.nodes

pub word_stays : (w : Word) (i : ℕ) (τ : Tab) → Stays τ (by_word w i τ)
word_stays Word.Bare i τ = record { text = refl; count = refl; bytes = refl; room = refl }
word_stays Word.Named i τ = record { text = refl; count = refl; bytes = refl; room = length-set τ.nodes i (with_word (node_at τ.nodes i) Word.Named) }
word_stays Word.Var i τ = record { text = refl; count = refl; bytes = refl; room = refl }
word_stays Word.Let i τ = record { text = refl; count = refl; bytes = refl; room = refl }
word_stays Word.Const i τ = record { text = refl; count = refl; bytes = refl; room = refl }
word_stays Word.S i τ = record { text = refl; count = refl; bytes = refl; room = refl }
word_stays Word.C i τ = record { text = refl; count = refl; bytes = refl; room = refl }
word_stays Word.False i τ = record { text = refl; count = refl; bytes = refl; room = refl }
word_stays Word.True i τ = record { text = refl; count = refl; bytes = refl; room = refl }

pub name_stays : (l : Label) (w : Word) (i : ℕ) (τ : Tab) → Stays τ (name_tab l w i τ)
name_stays Label.None w i τ = record { text = refl; count = refl; bytes = refl; room = refl }
name_stays Label.Ident w i τ = record { text = refl; count = refl; bytes = refl; room = refl }
name_stays Label.Name w i τ = record { text = refl; count = refl; bytes = refl; room = refl }
name_stays Label.Scope w i τ = record { text = refl; count = refl; bytes = refl; room = refl }
name_stays Label.Variables w i τ = record { text = refl; count = refl; bytes = refl; room = refl }
name_stays Label.Function w i τ = word_stays w i τ
name_stays Label.Handle w i τ = record { text = refl; count = refl; bytes = refl; room = refl }
name_stays Label.Text w i τ = record { text = refl; count = refl; bytes = refl; room = refl }
name_stays Label.Truth w i τ = record { text = refl; count = refl; bytes = refl; room = refl }

-- after a form's beginning
abbrev pub begun : Says → Tab → Tab
begun s τ = name_tab (label_of s.kind) s.word τ.count (head_tab s τ)

begun-stays : (s : Says) (τ : Tab) → Stays (head_tab s τ) (begun s τ)
begun-stays s τ = name_stays (label_of s.kind) s.word τ.count (head_tab s τ)

begun-count : (s : Says) (τ : Tab) → (begun s τ).count ≡ sum τ.count 1
begun-count s τ = (begun-stays s τ).count

mutual
  pub form-count : (t : Form) (τ : Tab) → (tab_form t τ).count ≡ sum τ.count (size t)
  form-count (form s fs) τ =
      let b : (begun s τ).count ≡ sum τ.count 1 = begun-count s τ in
      let f : (tab_forms fs (begun s τ)).count ≡ sum (begun s τ).count (sizes fs) = forms_count fs (begun s τ) (omega arith) in
      f ∙ omega arith

  pub forms_count : (fs : Forms) (τ : Tab) → τ.count ≤ 2 ^ 64 - 1 → (tab_forms fs τ).count ≡ sum τ.count (sizes fs)
  forms_count nil τ h = omega arith
  forms_count (cons t fs) τ h =
      let a : (tab_form t τ).count ≡ sum τ.count (size t) = form-count t τ in
      let b : (tab_forms fs (tab_form t τ)).count ≡ sum (tab_form t τ).count (sizes fs) = forms_count fs (tab_form t τ) (omega arith) in
      b ∙ omega arith

pub module_count : (m : Form) (nodes : List Node) (text : List ℕ) → (module_tab m nodes text).count ≡ min (size m) (2 ^ 64 - 1)
module_count (form s items) nodes text =
    let τ : Tab = start_tab nodes text in
    let a : (tab_form (form s nil) τ).count ≡ sum 0 (size (form s nil)) = form-count (form s nil) τ in
    let b : (tab_forms items (tab_form (form s nil) τ)).count ≡ sum (tab_form (form s nil) τ).count (sizes items) = forms_count items (tab_form (form s nil) τ) (omega arith) in
    b ∙ omega arith

-- only identifiers and names have bytes
said-bytes : (l : Label) (s : Says) (b : ℕ) → Asked l s → b ≤ 2 ^ 64 - 1 → bytes_by l b s.name ≡ sum b (length s.name)
said-bytes Label.Ident s b a h = refl
said-bytes Label.Name s b a h = refl
said-bytes Label.Handle s b a h = absurd a
said-bytes Label.Text s b a h = absurd a
said-bytes Label.Truth s b a h = absurd a
said-bytes l s b a h = let e : length s.name ≡ 0 = ap length a.3 in omega arith

mutual
  pub form-bytes : (t : Form) (τ : Tab) → AllAsked t → τ.bytes ≤ 2 ^ 64 - 1 → (tab_form t τ).bytes ≡ sum τ.bytes (length (names t))
  form-bytes (form s fs) τ a h =
      let b : (begun s τ).bytes ≡ sum τ.bytes (length s.name) = (begun-stays s τ).bytes ∙ said-bytes (label_of s.kind) s τ.bytes a.0 h in
      let f : (tab_forms fs (begun s τ)).bytes ≡ sum (begun s τ).bytes (length (all_names fs)) = forms_bytes fs (begun s τ) a.1 (omega arith) in
      f ∙ omega (arith, length-append s.name (all_names fs))

  pub forms_bytes : (fs : Forms) (τ : Tab) → AllsAsked fs → τ.bytes ≤ 2 ^ 64 - 1 → (tab_forms fs τ).bytes ≡ sum τ.bytes (length (all_names fs))
  forms_bytes nil τ a h = omega arith
  forms_bytes (cons t fs) τ a h =
      let p : (tab_form t τ).bytes ≡ sum τ.bytes (length (names t)) = form-bytes t τ a.0 h in
      let q : (tab_forms fs (tab_form t τ)).bytes ≡ sum (tab_form t τ).bytes (length (all_names fs)) = forms_bytes fs (tab_form t τ) a.1 (omega arith) in
      q ∙ omega (arith, length-append (names t) (all_names fs))

pub asked-bytes : (m : Form) (nodes : List Node) (text : List ℕ) → AllAsked m → (module_tab m nodes text).bytes ≡ min (length (names m)) (2 ^ 64 - 1)
asked-bytes (form s items) nodes text a =
    let τ : Tab = start_tab nodes text in
    let p : (tab_form (form s nil) τ).bytes ≡ sum 0 (length (s.name ++ [])) = form-bytes (form s nil) τ (a.0, tt) (omega arith) in
    let q : (tab_forms items (tab_form (form s nil) τ)).bytes ≡ sum (tab_form (form s nil) τ).bytes (length (all_names items)) = forms_bytes items (tab_form (form s nil) τ) a.1 (omega arith) in
    let e : length (s.name ++ []) ≡ length s.name = ap length (append-nil s.name) in
    q ∙ omega (arith, length-append s.name (all_names items))

pub module_bytes : {limit : ℕ} (s : Says) (items : Forms) (nodes : List Node) (text : List ℕ) → s.kind ≡ Kind.Module → Proper limit s → Items limit items → (module_tab (form s items) nodes text).bytes ≡ min (length (names (form s items))) (2 ^ 64 - 1)
module_bytes s items nodes text k p i = asked-bytes (form s items) nodes text (module_asked s items k p i)

-- the tables keep their lengths
pub record Lengths (τ τ' : Tab) : Type 0 where
  pub slots : length τ'.nodes ≡ length τ.nodes
  pub room : length τ'.text ≡ length τ.text

length_kept : (o : List ℕ) (b : ℕ) (xs : List ℕ) → length (kept_at o b xs) ≡ length o
length_kept o b xs =
    let k : ℕ = min b (length o) in
    let t : length (take k o) ≡ k = length-take-le k o (omega arith) in
    let d : length (over (drop k o) xs) ≡ length o - k = length_over (drop k o) xs ∙ length-drop k o in
    length-append (take k o) (over (drop k o) xs) ∙ omega arith

said-length : (l : Label) (o : List ℕ) (b : ℕ) (xs : List ℕ) → length (text_by l o b xs) ≡ length o
said-length Label.Ident o b xs = length_kept o b xs
said-length Label.Name o b xs = length_kept o b xs
said-length l o b xs = refl

begun_lengths : (s : Says) (τ : Tab) → Lengths τ (begun s τ)
begun_lengths s τ =
    let h : Stays (head_tab s τ) (begun s τ) = begun-stays s τ in
    record { slots = h.room ∙ length-set τ.nodes τ.count (head_tab s τ).node; room = ap length h.text ∙ said-length (label_of s.kind) τ.text τ.bytes s.name }

close_lengths : {τ τ' : Tab} (i : ℕ) → Lengths τ τ' → Lengths τ (close_tab i τ')
close_lengths {τ} {τ'} i h = record { slots = length-set τ'.nodes i (with_size (node_at τ'.nodes i) (min (τ'.count - i) 65535)) ∙ h.slots; room = h.room }

both_lengths : {τ τ' τ'' : Tab} → Lengths τ τ' → Lengths τ' τ'' → Lengths τ τ''
both_lengths a b = record { slots = b.slots ∙ a.slots; room = b.room ∙ a.room }

mutual
  pub form_lengths : (t : Form) (τ : Tab) → Lengths τ (tab_form t τ)
  form_lengths (form s fs) τ = close_lengths τ.count (both_lengths (begun_lengths s τ) (forms_lengths fs (begun s τ)))

  pub forms_lengths : (fs : Forms) (τ : Tab) → Lengths τ (tab_forms fs τ)
  forms_lengths nil τ = record { slots = refl; room = refl }
  forms_lengths (cons t fs) τ = both_lengths (form_lengths t τ) (forms_lengths fs (tab_form t τ))

pub module_lengths : (m : Form) (nodes : List Node) (text : List ℕ) → Lengths (start_tab nodes text) (module_tab m nodes text)
module_lengths (form s items) nodes text = close_lengths 0 (both_lengths (form_lengths (form s nil) (start_tab nodes text)) (forms_lengths items (tab_form (form s nil) (start_tab nodes text))))
