-- The tables that a module is read into, where all of it fits: they hold its tree and its names.
use Rattle.std.proofs.Common.{◌≡◌, ℕ, suc, ◌+◌, ◌-◌, ◌<◌, ◌≤◌, min, true, List, [], ◌∷◌, ◌++◌, length, take, drop, set, sym, refl, ap, ◌∙◌, subst, ap₂, arith}
use Rattle.std.proofs.lemmas.List.{append-nil, length-append, set-set, get_or-set_same}
use Rattle.std.proofs.lemmas.Bool.{false≢true}
use Rattle.tables.specs.Modules.{void, node_at}
use Rattle.tables.specs.declared.kind.Kind.{Kind}
use Rattle.tables.specs.declared.kind.Word.{Word}
use Rattle.tables.specs.declared.node.Node.{Node}
use Rattle.tables.specs.declared.node.Place.{Place}
use Rattle.walk.specs.Trees.{flat, flats}
use Rattle.grammar.specs.declared.label.Label.{Label}
use Rattle.grammar.specs.Forms.{Says, Form, form, Forms, nil, cons, size, sizes, names, all_names}
use Rattle.grammar.specs.Labels.{label_of}
use Rattle.grammar.specs.Parts.{Proper, says_function}
use Rattle.grammar.specs.Readings.{Items}
use Rattle.printer.specs.Held.{held}
use Rattle.reader.specs.Machine.{sum, with_word, with_size}
use Rattle.form.proofs.Asked.{Asked, AllAsked, AllsAsked, module_asked}
use Rattle.form.proofs.Counts.{Stays, name_stays, begun}
use Rattle.form.proofs.Laid.{laid, laid_none, laid_one, length-laid, laid-laid, laid_at, laid-set, laid_front, take-laid, laid_kept}
use Rattle.form.proofs.Tabled.{placed, tabled, tableds, length-flat, length-flats, held-form}
use Rattle.form.proofs.Tabs.{Tab, word_by, nowhere, place_by, text_by, bytes_by, by_word, name_tab, close_tab, tab_form, tab_forms, start_tab, module_tab}

-- n nodes and b bytes more fit the tables
pub record Fits (τ : Tab) (n b : ℕ) : Type 0 where
  pub slots : τ.count + n ≤ length τ.nodes
  pub most_slots : length τ.nodes ≤ 8192
  pub room : τ.bytes + b ≤ length τ.text
  pub most_room : length τ.text ≤ 49152

-- the tables have some nodes and bytes more
pub record Built (τ τ' : Tab) (ns : List Node) (xs : List ℕ) : Type 0 where
  pub count : τ'.count ≡ τ.count + length ns
  pub bytes : τ'.bytes ≡ τ.bytes + length xs
  pub nodes : τ'.nodes ≡ laid τ.nodes τ.count ns
  pub text : τ'.text ≡ laid τ.text τ.bytes xs

pub built_none : (τ : Tab) → Built τ τ [] []
built_none τ = record { count = omega arith; bytes = omega arith; nodes = laid_none τ.nodes τ.count; text = laid_none τ.text τ.bytes }

pub built_join : {τ τ' τ'' : Tab} {ns ms : List Node} {xs ys : List ℕ} → Fits τ (length ns) (length xs) → Built τ τ' ns xs → Built τ' τ'' ms ys → Built τ τ'' (ns ++ ms) (xs ++ ys)
built_join {τ} {τ'} {τ''} {ns} {ms} {xs} {ys} r a b = record {
  count = omega (arith, a.count, b.count, length-append ns ms);
  bytes = omega (arith, a.bytes, b.bytes, length-append xs ys);
  nodes = b.nodes ∙ ap₂ (λ o i. laid o i ms) a.nodes a.count ∙ laid-laid τ.nodes τ.count ns ms r.slots;
  text = b.text ∙ ap₂ (λ o i. laid o i ys) a.text a.bytes ∙ laid-laid τ.text τ.bytes xs ys r.room;
}

-- what is left
pub built_fits : {τ τ' : Tab} {ns : List Node} {xs : List ℕ} (n b : ℕ) → Fits τ (length ns + n) (length xs + b) → Built τ τ' ns xs → Fits τ' n b
built_fits {τ} {τ'} {ns} {xs} n b r a =
    let s : length τ'.nodes ≡ length τ.nodes = ap length a.nodes ∙ length-laid τ.nodes τ.count ns (omega (arith, r.slots)) in
    let t : length τ'.text ≡ length τ.text = ap length a.text ∙ length-laid τ.text τ.bytes xs (omega (arith, r.room)) in
    record {
      slots = omega (arith, r.slots, a.count);
      most_slots = omega (arith, r.most_slots);
      room = omega (arith, r.room, a.bytes);
      most_room = omega (arith, r.most_room);
    }

pub fewer : {τ : Tab} {n b : ℕ} (m c : ℕ) → Fits τ n b → m ≤ n → c ≤ b → Fits τ m c
fewer m c r h k = record { slots = omega (arith, r.slots); most_slots = r.most_slots; room = omega (arith, r.room); most_room = r.most_room }

-- the node of a form by its label, before its size is known
abbrev node_by : Says → Word → ℕ → Place → Node
node_by s w n p = record { kind = s.kind; word = w; scope = s.scope; number = n; text = p; size = 1; span = s.span }

abbrev pub node_for : Label → ℕ → Says → Node
node_for l b s = node_by s s.word s.number (placed l b s.name)

same-node : (s : Says) (w v : Word) (n k : ℕ) (p q : Place) → w ≡ v → n ≡ k → p ≡ q → node_by s w n p ≡ node_by s v k q
same-node s w v n k p q a b c = ap₂ (λ x y. node_by s x y p) a b ∙ ap (node_by s v k) c

-- a form's beginning by its label
abbrev head_by : Label → Says → Tab → Tab
head_by l s τ =
    let n : Node = node_by s (word_by l s.word) 0 (place_by l τ.bytes s.name) in
    record { node = n; nodes = set τ.nodes τ.count n; text = text_by l τ.text τ.bytes s.name; count = sum τ.count 1; bytes = bytes_by l τ.bytes s.name }

-- a function's node, with the word that tells whether it has a name
function_nodes : (w : Word) (s : Says) (τ : Tab) → says_function w ≡ true → τ.count < length τ.nodes → (by_word w τ.count (head_by Label.Function s τ)).nodes ≡ set τ.nodes τ.count (node_by s w 0 nowhere)
function_nodes Word.Bare s τ f h = refl
function_nodes Word.Named s τ f h =
    let n : Node = node_by s Word.Bare 0 nowhere in
    ap (λ x. set (set τ.nodes τ.count n) τ.count (with_word x Word.Named)) (get_or-set_same τ.nodes τ.count n void h) ∙ set-set τ.nodes τ.count n (node_by s Word.Named 0 nowhere)
function_nodes Word.Var s τ f h = absurd (false≢true f)
function_nodes Word.Let s τ f h = absurd (false≢true f)
function_nodes Word.Const s τ f h = absurd (false≢true f)
function_nodes Word.S s τ f h = absurd (false≢true f)
function_nodes Word.C s τ f h = absurd (false≢true f)
function_nodes Word.False s τ f h = absurd (false≢true f)
function_nodes Word.True s τ f h = absurd (false≢true f)

near : (b n : ℕ) → b + n ≤ 49152 → ◌≡◌ {A = Place} (record { at = min b 65535; len = min n 65535 }) (record { at = b; len = n })
near b n h =
    let x : min b 65535 ≡ b = omega arith in
    let y : min n 65535 ≡ n = omega arith in
    let P : ℕ → ℕ → Place = λ i j. record { at = i; len = j } in
    ap₂ P x y

head-nodes : (l : Label) (s : Says) (τ : Tab) → Asked l s → τ.count < length τ.nodes → τ.bytes + length s.name ≤ 49152 → (name_tab l s.word τ.count (head_by l s τ)).nodes ≡ set τ.nodes τ.count (node_for l τ.bytes s)
head-nodes Label.None s τ a h k = ap (set τ.nodes τ.count) (same-node s Word.Bare s.word 0 s.number nowhere nowhere (sym a.0) (sym a.2) refl)
head-nodes Label.Ident s τ a h k = ap (set τ.nodes τ.count) (same-node s Word.Bare s.word 0 s.number _ _ (sym a.0) (sym a.2) (near τ.bytes (length s.name) k))
head-nodes Label.Name s τ a h k = ap (set τ.nodes τ.count) (same-node s Word.Bare s.word 0 s.number _ _ (sym a.0) (sym a.2) (near τ.bytes (length s.name) k))
head-nodes Label.Scope s τ a h k = ap (set τ.nodes τ.count) (same-node s Word.Bare s.word 0 s.number nowhere nowhere (sym a.0) (sym a.2) refl)
head-nodes Label.Variables s τ a h k = ap (set τ.nodes τ.count) (same-node s s.word s.word 0 s.number nowhere nowhere refl (sym a.2) refl)
head-nodes Label.Function s τ a h k = function_nodes s.word s τ a.0 h ∙ ap (set τ.nodes τ.count) (same-node s s.word s.word 0 s.number nowhere nowhere refl (sym a.2) refl)
head-nodes Label.Handle s τ a h k = absurd a
head-nodes Label.Text s τ a h k = absurd a
head-nodes Label.Truth s τ a h k = absurd a

head_text : (l : Label) (s : Says) (o : List ℕ) (b : ℕ) → Asked l s → b + length s.name ≤ length o → text_by l o b s.name ≡ laid o b s.name
head_text Label.Ident s o b a h = laid_kept o b s.name h
head_text Label.Name s o b a h = laid_kept o b s.name h
head_text Label.Handle s o b a h = absurd a
head_text Label.Text s o b a h = absurd a
head_text Label.Truth s o b a h = absurd a
head_text l s o b a h = laid_none o b ∙ ap (laid o b) (sym a.3)

head_bytes : (l : Label) (s : Says) (b : ℕ) → Asked l s → b + length s.name ≤ 49152 → bytes_by l b s.name ≡ b + length s.name
head_bytes Label.Ident s b a h = omega arith
head_bytes Label.Name s b a h = omega arith
head_bytes Label.Handle s b a h = absurd a
head_bytes Label.Text s b a h = absurd a
head_bytes Label.Truth s b a h = absurd a
head_bytes l s b a h = let e : length s.name ≡ 0 = ap length a.3 in omega arith

head_built : (l : Label) (s : Says) (τ : Tab) → Asked l s → Fits τ 1 (length s.name) → Built τ (name_tab l s.word τ.count (head_by l s τ)) (node_for l τ.bytes s ∷ []) s.name
head_built l s τ a r =
    let k : Stays (head_by l s τ) (name_tab l s.word τ.count (head_by l s τ)) = name_stays l s.word τ.count (head_by l s τ) in
    let h : τ.count < length τ.nodes = omega (arith, r.slots) in
    record {
      count = k.count ∙ omega (arith, r.slots, r.most_slots);
      bytes = k.bytes ∙ head_bytes l s τ.bytes a (omega (arith, r.room, r.most_room));
      nodes = head-nodes l s τ a h (omega (arith, r.room, r.most_room)) ∙ laid_one τ.nodes τ.count (node_for l τ.bytes s) h;
      text = k.text ∙ head_text l s τ.text τ.bytes a r.room;
    }

-- a form's end: its size is set
close_built : {τ τ' : Tab} {n : Node} {below : List Node} {xs : List ℕ} → Fits τ (suc (length below)) (length xs) → Built τ τ' (n ∷ below) xs → Built τ (close_tab τ.count τ') (with_size n (suc (length below)) ∷ below) xs
close_built {τ} {τ'} {n} {below} {xs} r b =
    let c : τ'.count ≡ τ.count + suc (length below) = b.count in
    let k : min (τ'.count - τ.count) 65535 ≡ suc (length below) = omega (arith, r.slots, r.most_slots) in
    let h : τ.count ≤ length τ.nodes = omega (arith, r.slots) in
    let e : node_at τ'.nodes τ.count ≡ n = ap (λ o. node_at o τ.count) b.nodes ∙ laid_at τ.nodes τ.count n below void h in
    record {
      count = b.count;
      bytes = b.bytes;
      nodes = ap₂ (λ x i. set τ'.nodes τ.count (with_size x i)) e k ∙ ap (λ o. set o τ.count (with_size n (suc (length below)))) b.nodes ∙ laid-set τ.nodes τ.count n (with_size n (suc (length below))) below h;
      text = b.text;
    }

mutual
  pub form_built : (t : Form) (τ : Tab) → AllAsked t → Fits τ (size t) (length (names t)) → Built τ (tab_form t τ) (flat (tabled τ.bytes t)) (names t)
  form_built (form s fs) τ a r =
      let below : List Node = flats (tableds (τ.bytes + length s.name) fs) in
      let lb : length below ≡ sizes fs = length-flats fs (τ.bytes + length s.name) in
      let ln : length (s.name ++ all_names fs) ≡ length s.name + length (all_names fs) = length-append s.name (all_names fs) in
      let n : Node = node_for (label_of s.kind) τ.bytes s in
      let r1 : Fits τ 1 (length s.name) = fewer 1 (length s.name) r (omega arith) (omega arith) in
      let h : Built τ (begun s τ) (n ∷ []) s.name = head_built (label_of s.kind) s τ a.0 r1 in
      let r2 : Fits (begun s τ) (sizes fs) (length (all_names fs)) = built_fits (sizes fs) (length (all_names fs)) (fewer (1 + sizes fs) (length s.name + length (all_names fs)) r (omega arith) (omega arith)) h in
      let f : Built (begun s τ) (tab_forms fs (begun s τ)) below (all_names fs) = subst (λ b. Built (begun s τ) (tab_forms fs (begun s τ)) (flats (tableds b fs)) (all_names fs)) h.bytes (forms_built fs (begun s τ) a.1 r2) in
      close_built (fewer (suc (length below)) (length (s.name ++ all_names fs)) r (omega arith) (omega arith)) (built_join r1 h f)

  pub forms_built : (fs : Forms) (τ : Tab) → AllsAsked fs → Fits τ (sizes fs) (length (all_names fs)) → Built τ (tab_forms fs τ) (flats (tableds τ.bytes fs)) (all_names fs)
  forms_built nil τ a r = built_none τ
  forms_built (cons t fs) τ a r =
      let lt : length (flat (tabled τ.bytes t)) ≡ size t = length-flat t τ.bytes in
      let ln : length (names t ++ all_names fs) ≡ length (names t) + length (all_names fs) = length-append (names t) (all_names fs) in
      let h : Built τ (tab_form t τ) (flat (tabled τ.bytes t)) (names t) = form_built t τ a.0 (fewer (size t) (length (names t)) r (omega arith) (omega arith)) in
      let r2 : Fits (tab_form t τ) (sizes fs) (length (all_names fs)) = built_fits (sizes fs) (length (all_names fs)) (fewer (length (flat (tabled τ.bytes t)) + sizes fs) (length (names t) + length (all_names fs)) r (omega arith) (omega arith)) h in
      let f : Built (tab_form t τ) (tab_forms fs (tab_form t τ)) (flats (tableds (τ.bytes + length (names t)) fs)) (all_names fs) = subst (λ b. Built (tab_form t τ) (tab_forms fs (tab_form t τ)) (flats (tableds b fs)) (all_names fs)) h.bytes (forms_built fs (tab_form t τ) a.1 r2) in
      built_join (fewer (length (flat (tabled τ.bytes t))) (length (names t)) r (omega arith) (omega arith)) h f

-- a module is read as its own form without the items, then the items
pub asked_built : (m : Form) (nodes : List Node) (text : List ℕ) → AllAsked m → Fits (start_tab nodes text) (size m) (length (names m)) → Built (start_tab nodes text) (module_tab m nodes text) (flat (tabled 0 m)) (names m)
asked_built (form s items) nodes text a r =
    let τ : Tab = start_tab nodes text in
    let u : Tab = tab_form (form s nil) τ in
    let n : Node = node_for (label_of s.kind) 0 s in
    let below : List Node = flats (tableds (0 + length s.name) items) in
    let lb : length below ≡ sizes items = length-flats items (0 + length s.name) in
    let ln : length (s.name ++ all_names items) ≡ length s.name + length (all_names items) = length-append s.name (all_names items) in
    let e : s.name ++ [] ≡ s.name = append-nil s.name in
    let le : length (s.name ++ []) ≡ length s.name = ap length e in
    let h : Built τ u (n ∷ []) s.name = subst (Built τ u (n ∷ [])) e (form_built (form s nil) τ (a.0, tt) (fewer 1 (length (s.name ++ [])) r (omega arith) (omega arith))) in
    let r2 : Fits u (sizes items) (length (all_names items)) = built_fits (sizes items) (length (all_names items)) (fewer (1 + sizes items) (length s.name + length (all_names items)) r (omega arith) (omega arith)) h in
    let f : Built u (tab_forms items u) below (all_names items) = subst (λ b. Built u (tab_forms items u) (flats (tableds b items)) (all_names items)) h.bytes (forms_built items u a.1 r2) in
    close_built (fewer (suc (length below)) (length (s.name ++ all_names items)) r (omega arith) (omega arith)) (built_join (fewer 1 (length s.name) r (omega arith) (omega arith)) h f)

-- the tables hold a module
pub record Holds (m : Form) (τ : Tab) : Type 0 where
  pub nodes : take (size m) τ.nodes ≡ flat (tabled 0 m)
  pub text : take (length (names m)) τ.text ≡ names m
  pub whole : held τ.text (tabled 0 m) ≡ m
  -- the text table cut to what is used
  pub used : held (take (length (names m)) τ.text) (tabled 0 m) ≡ m

pub asked-holds : (m : Form) (nodes : List Node) (text : List ℕ) → AllAsked m → Fits (start_tab nodes text) (size m) (length (names m)) → Holds m (module_tab m nodes text)
asked-holds m nodes text a r =
    let τ : Tab = module_tab m nodes text in
    let b : Built (start_tab nodes text) τ (flat (tabled 0 m)) (names m) = asked_built m nodes text a r in
    let n : take (size m) τ.nodes ≡ flat (tabled 0 m) = ap (take (size m)) b.nodes ∙ take-laid nodes (flat (tabled 0 m)) (size m) (length-flat m 0) in
    let x : take (length (names m)) τ.text ≡ names m = ap (take (length (names m))) b.text ∙ take-laid text (names m) (length (names m)) refl in
    record {
      nodes = n;
      text = x;
      whole = held-form m a τ.text [] (drop (0 + length (names m)) text) 0 (b.text ∙ laid_front text (names m)) refl;
      used = held-form m a (take (length (names m)) τ.text) [] [] 0 (x ∙ sym (append-nil (names m))) refl;
    }

pub module_holds : {limit : ℕ} (s : Says) (items : Forms) (nodes : List Node) (text : List ℕ) → s.kind ≡ Kind.Module → Proper limit s → Items limit items → size (form s items) ≤ length nodes → length nodes ≤ 8192 → length (names (form s items)) ≤ length text → length text ≤ 49152 → Holds (form s items) (module_tab (form s items) nodes text)
module_holds s items nodes text k p i hn mn ht mt =
    asked-holds (form s items) nodes text (module_asked s items k p i) (record { slots = omega arith; most_slots = mn; room = omega arith; most_room = mt })
