-- A text is read back in one way: runs of bytes up to a blank or a bracket, texts in quotes, labels, forms.
use Rattle.std.proofs.Common.{◌≡◌, ℕ, ◌+◌, ◌%◌, ◌^◌, ◌<◌, Bool, true, cond, not, ◌&&◌, ◌||◌, eqb, leb, ◌⊎◌, List, [], ◌∷◌, ◌++◌, length, Some, None, decimal, Option, sym, refl, ap, ◌∙◌, subst, ap₂, inl, inr, arith}
use Rattle.std.specs.Str.{bytes_eq}
use Rattle.std.proofs.lemmas.Fmt.{decimal_by_steps, decimal_injective}
use Rattle.std.proofs.lemmas.List.{append_assoc}
use Rattle.std.proofs.lemmas.Bool.{false≢true, and_parts, and_from, ne_eqb, eqb-true, cond_both, cond-false}
use Rattle.tables.specs.Text.{every, in_name, starts_name, name}
use Rattle.tables.specs.declared.kind.Kind.{Kind}
use Rattle.tables.specs.declared.kind.Word.{Word}
use Rattle.grammar.specs.declared.label.Label.{Label}
use Rattle.grammar.specs.Labels.{label_of}
use Rattle.grammar.specs.Words.{word_of, text_of, named, kinds}
use Rattle.grammar.specs.Parts.{Said, says_function}
use Rattle.grammar.specs.Forms.{Says, Form, form, Forms, nil, cons, escape, escaped, dash, label, head, written, parts, lines}
use Rattle.lex.proofs.Numbers.{every_also}
use Rattle.printer.specs.Told.{Sound, AllSaid, AllSaids, Injective}

-- a byte that ends no run
abbrev free : ℕ → Bool
free b = not (eqb b 32 || eqb b 41)

abbrev Free : List ℕ → Type 0
Free a = every free a ≡ true

-- what may stand behind a run
data Marked : List ℕ → Type 0 where
  blank : {r : List ℕ} → Marked (32 ∷ r)
  close : {r : List ℕ} → Marked (41 ∷ r)

-- what may stand behind what a form says: a part or the end
data Tail : List ℕ → Type 0 where
  part : {r : List ℕ} → Tail (32 ∷ 40 ∷ r)
  end : {r : List ℕ} → Tail (41 ∷ r)

marked : {r : List ℕ} → Tail r → Marked r
marked part = blank
marked end = close

not_free : (y : ℕ) {r t : List ℕ} → Marked r → free y ≡ true → r ≡ y ∷ t → ⊥
not_free y blank f e = let h : y ≡ 32 = cc in false≢true (subst (λ c. free c ≡ true) h f)
not_free y close f e = let h : y ≡ 41 = cc in false≢true (subst (λ c. free c ≡ true) h f)

-- a run ends where it ends
split : (a b : List ℕ) {r s : List ℕ} → Free a → Free b → Marked r → Marked s → a ++ r ≡ b ++ s → (a ≡ b) × (r ≡ s)
split [] [] fa fb mr ms e = (refl, e)
split [] (y ∷ b) fa fb mr ms e = absurd (not_free y mr (and_parts (free y) (every free b) fb).0 e)
split (x ∷ a) [] fa fb mr ms e = absurd (not_free x ms (and_parts (free x) (every free a) fa).0 (sym e))
split (x ∷ a) (y ∷ b) {r} {s} fa fb mr ms e =
    let h : x ≡ y = cc in
    let t : a ++ r ≡ b ++ s = cc in
    let p = split a b (and_parts (free x) (every free a) fa).1 (and_parts (free y) (every free b) fb).1 mr ms t in
    (ap₂ (λ c cs. c ∷ cs) h p.0, p.1)

free-append : (a b : List ℕ) → Free a → Free b → Free (a ++ b)
free-append [] b fa fb = fb
free-append (x ∷ a) b fa fb =
    let p = and_parts (free x) (every free a) fa in
    and_from (free x) (every free (a ++ b)) p.0 (free-append a b p.1 fb)

-- numbers and names are runs
free_byte : (c : ℕ) → (c ≡ 32 → ⊥) → (c ≡ 41 → ⊥) → free c ≡ true
free_byte c p q = ap₂ (λ x y. not (x || y)) (ne_eqb c 32 p) (ne_eqb c 41 q)

digit-free : (d : ℕ) → d < 10 → Free ((48 + d) ∷ [])
digit-free d h = and_from (free (48 + d)) true (free_byte (48 + d) (λ e. omega arith) (λ e. omega arith)) refl

decimal-free : (n : ℕ) → n < 2 ^ 64 → Free (decimal n)
decimal-free n h = decimal_by_steps (λ _ ds. Free ds) digit-free (λ m ds le f. free-append ds ((48 + m % 10) ∷ []) f (digit-free (m % 10) (omega arith))) n h

in_name_free : (c : ℕ) → in_name c ≡ true → free c ≡ true
in_name_free c h = free_byte c (λ e. false≢true (subst (λ b. in_name b ≡ true) e h)) (λ e. false≢true (subst (λ b. in_name b ≡ true) e h))

all_free : (bs : List ℕ) → every in_name bs ≡ true → Free bs
all_free bs h = every_also in_name free in_name_free bs h

name_free : (bs : List ℕ) → name bs ≡ true → Free bs
name_free bs h = all_free bs (and_parts (leb (length bs) 64) (every in_name bs) (and_parts (starts_name bs) (leb (length bs) 64 && every in_name bs) h).1).1

-- each kind by its word
abbrev all : List Kind
all = Kind.Hand ∷ Kind.Str ∷ Kind.Bool ∷ kinds

kind-told : (k : Kind) → (named all (word_of k) ≡ Some k) × Free (word_of k)
kind-told Kind.Module = (refl, refl)
kind-told Kind.Import = (refl, refl)
kind-told Kind.Export = (refl, refl)
kind-told Kind.Deffn = (refl, refl)
kind-told Kind.Defexpr = (refl, refl)
kind-told Kind.Expr = (refl, refl)
kind-told Kind.Var = (refl, refl)
kind-told Kind.Func = (refl, refl)
kind-told Kind.Return = (refl, refl)
kind-told Kind.If = (refl, refl)
kind-told Kind.Block = (refl, refl)
kind-told Kind.Id = (refl, refl)
kind-told Kind.Lit = (refl, refl)
kind-told Kind.Call = (refl, refl)
kind-told Kind.Member = (refl, refl)
kind-told Kind.Array = (refl, refl)
kind-told Kind.Op = (refl, refl)
kind-told Kind.Assign = (refl, refl)
kind-told Kind.Arrow = (refl, refl)
kind-told Kind.Fn = (refl, refl)
kind-told Kind.Tagged = (refl, refl)
kind-told Kind.Jsx = (refl, refl)
kind-told Kind.Pat = (refl, refl)
kind-told Kind.Dflt = (refl, refl)
kind-told Kind.Decl = (refl, refl)
kind-told Kind.Prop = (refl, refl)
kind-told Kind.Attr = (refl, refl)
kind-told Kind.Kwimport = (refl, refl)
kind-told Kind.Hand = (refl, refl)
kind-told Kind.Str = (refl, refl)
kind-told Kind.Bool = (refl, refl)

same_some : {X : Type 0} {x y : X} → Some x ≡ Some y → x ≡ y
same_some e = cc

same_kind : (k j : Kind) → word_of k ≡ word_of j → k ≡ j
same_kind k j e = same_some (sym (kind-told k).0 ∙ ap (named all) e ∙ (kind-told j).0)

-- each word by its text
abbrev word_named : List Word → List ℕ → Option Word
word_named [] bs = None
word_named (w ∷ ws) bs = cond (bytes_eq bs (text_of w)) (Some w) (word_named ws bs)

abbrev words : List Word
words = Word.Bare ∷ Word.Named ∷ Word.Var ∷ Word.Let ∷ Word.Const ∷ Word.S ∷ Word.C ∷ Word.False ∷ Word.True ∷ []

word_told : (w : Word) → (word_named words (text_of w) ≡ Some w) × Free (text_of w)
word_told Word.Bare = (refl, refl)
word_told Word.Named = (refl, refl)
word_told Word.Var = (refl, refl)
word_told Word.Let = (refl, refl)
word_told Word.Const = (refl, refl)
word_told Word.S = (refl, refl)
word_told Word.C = (refl, refl)
word_told Word.False = (refl, refl)
word_told Word.True = (refl, refl)

same_word : (w v : Word) → text_of w ≡ text_of v → w ≡ v
same_word w v e = same_some (sym (word_told w).0 ∙ ap (word_named words) e ∙ (word_told v).0)

-- a run after a blank
read_run : (a b : List ℕ) {r s : List ℕ} → Free a → Free b → Marked r → Marked s → (32 ∷ a) ++ r ≡ (32 ∷ b) ++ s → (a ≡ b) × (r ≡ s)
read_run a b {r} {s} fa fb mr ms e = let t : a ++ r ≡ b ++ s = cc in split a b fa fb mr ms t

read_number : (m n : ℕ) {r s : List ℕ} → m < 2 ^ 64 → n < 2 ^ 64 → Marked r → Marked s → (32 ∷ decimal m) ++ r ≡ (32 ∷ decimal n) ++ s → (m ≡ n) × (r ≡ s)
read_number m n hm hn mr ms e =
    let p = read_run (decimal m) (decimal n) (decimal-free m hm) (decimal-free n hn) mr ms e in
    (decimal_injective m n hm hn p.0, p.1)

read_word : (w v : Word) {r s : List ℕ} → Marked r → Marked s → (32 ∷ text_of w) ++ r ≡ (32 ∷ text_of v) ++ s → (w ≡ v) × (r ≡ s)
read_word w v mr ms e =
    let p = read_run (text_of w) (text_of v) (word_told w).1 (word_told v).1 mr ms e in
    (same_word w v p.0, p.1)

-- a text in quotes, read to its end: its bytes, and what stands behind
abbrev push : ℕ → List ℕ × List ℕ → List ℕ × List ℕ
push c p = (c ∷ p.0, p.1)

abbrev mutual
  read_text : List ℕ → List ℕ × List ℕ
  read_text [] = ([], [])
  read_text (c ∷ cs) = cond (eqb c 34) ([], cs) (cond (eqb c 92) (read_escape cs) (push c (read_text cs)))

  read_escape : List ℕ → List ℕ × List ℕ
  read_escape [] = ([], [])
  read_escape (d ∷ ds) = push (cond (eqb d 110) 10 d) (read_text ds)

read_byte : (b : ℕ) (bs : List ℕ) → read_text (escape b ++ bs) ≡ push b (read_text bs)
read_byte b bs =
    cond_both (eqb b 34) (92 ∷ 34 ∷ []) (cond (eqb b 92) (92 ∷ 92 ∷ []) (cond (eqb b 10) (92 ∷ 110 ∷ []) (b ∷ []))) P
    (λ q. ap (λ c. push c (read_text bs)) (sym (eqb-true b 34 q)))
    (λ q. cond_both (eqb b 92) (92 ∷ 92 ∷ []) (cond (eqb b 10) (92 ∷ 110 ∷ []) (b ∷ [])) P
    (λ s. ap (λ c. push c (read_text bs)) (sym (eqb-true b 92 s)))
    (λ s. cond_both (eqb b 10) (92 ∷ 110 ∷ []) (b ∷ []) P
    (λ f. ap (λ c. push c (read_text bs)) (sym (eqb-true b 10 f)))
    (λ f. cond-false (eqb b 34) ([], bs) (cond (eqb b 92) (read_escape bs) (push b (read_text bs))) q ∙ cond-false (eqb b 92) (read_escape bs) (push b (read_text bs)) s)))
  where
    P : List ℕ → Type 0
    P t = read_text (t ++ bs) ≡ push b (read_text bs)

read_escaped : (a r : List ℕ) → read_text (escaped a ++ (34 ∷ r)) ≡ (a, r)
read_escaped [] r = refl
read_escaped (b ∷ a) r = ap read_text (append_assoc (escape b) (escaped a) (34 ∷ r)) ∙ read_byte b (escaped a ++ (34 ∷ r)) ∙ ap (push b) (read_escaped a r)

read_text_lem : (a b r s : List ℕ) → escaped a ++ (34 ∷ r) ≡ escaped b ++ (34 ∷ s) → (a ≡ b) × (r ≡ s)
read_text_lem a b r s e =
    let p : ◌≡◌ {A = List ℕ × List ℕ} (a, r) (b, s) = sym (read_escaped a r) ∙ ap read_text e ∙ read_escaped b s in
    (ap (λ q. q.0) p, ap (λ q. q.1) p)

-- a function says `-` or nothing
function_word : (w : Word) → says_function w ≡ true → (w ≡ Word.Bare) ⊎ (w ≡ Word.Named)
function_word Word.Bare h = inl refl
function_word Word.Named h = inr refl
function_word Word.Var h = absurd (false≢true h)
function_word Word.Let h = absurd (false≢true h)
function_word Word.Const h = absurd (false≢true h)
function_word Word.S h = absurd (false≢true h)
function_word Word.C h = absurd (false≢true h)
function_word Word.False h = absurd (false≢true h)
function_word Word.True h = absurd (false≢true h)

no_dash : {q r : List ℕ} → Tail q → 32 ∷ 45 ∷ r ≡ q → ⊥
no_dash part e = let h : ◌≡◌ {A = ℕ} 45 40 = cc in omega arith
no_dash end e = let h : ◌≡◌ {A = ℕ} 32 41 = cc in omega arith

read_dash : (w v : Word) {r q : List ℕ} → (w ≡ Word.Bare) ⊎ (w ≡ Word.Named) → (v ≡ Word.Bare) ⊎ (v ≡ Word.Named) → Tail r → Tail q → dash w ++ r ≡ dash v ++ q → (w ≡ v) × (r ≡ q)
read_dash w v {r} {q} (inl a) (inl b) tr tq e =
    let f : dash Word.Bare ++ r ≡ dash Word.Bare ++ q = sym (ap (λ x. dash x ++ r) a) ∙ e ∙ ap (λ x. dash x ++ q) b in
    let g : r ≡ q = cc in
    (a ∙ sym b, g)
read_dash w v {r} {q} (inl a) (inr b) tr tq e =
    let f : dash Word.Bare ++ r ≡ dash Word.Named ++ q = sym (ap (λ x. dash x ++ r) a) ∙ e ∙ ap (λ x. dash x ++ q) b in
    absurd (no_dash tq f)
read_dash w v {r} {q} (inr a) (inl b) tr tq e =
    let f : dash Word.Named ++ r ≡ dash Word.Bare ++ q = sym (ap (λ x. dash x ++ r) a) ∙ e ∙ ap (λ x. dash x ++ q) b in
    absurd (no_dash tr (sym f))
read_dash w v {r} {q} (inr a) (inr b) tr tq e =
    let f : dash Word.Named ++ r ≡ dash Word.Named ++ q = sym (ap (λ x. dash x ++ r) a) ∙ e ∙ ap (λ x. dash x ++ q) b in
    (a ∙ sym b, f)

dash_marked : (w : Word) {r : List ℕ} → Tail r → Marked (dash w ++ r)
dash_marked Word.Bare t = blank
dash_marked Word.Named t = marked t
dash_marked Word.Var t = marked t
dash_marked Word.Let t = marked t
dash_marked Word.Const t = marked t
dash_marked Word.S t = marked t
dash_marked Word.C t = marked t
dash_marked Word.False t = marked t
dash_marked Word.True t = marked t

label_marked : (l : Label) (s : Says) {r : List ℕ} → Tail r → Marked (label l s ++ r)
label_marked Label.None s t = marked t
label_marked Label.Ident s t = blank
label_marked Label.Name s t = blank
label_marked Label.Scope s t = blank
label_marked Label.Variables s t = blank
label_marked Label.Function s t = dash_marked s.word t
label_marked Label.Handle s t = blank
label_marked Label.Text s t = blank
label_marked Label.Truth s t = blank

-- what a label tells
record Told (s u : Says) (r q : List ℕ) : Type 0 where
  word : s.word ≡ u.word
  scope : s.scope ≡ u.scope
  number : s.number ≡ u.number
  name : s.name ≡ u.name
  rest : r ≡ q

read_label : (l : Label) (s u : Says) {r q : List ℕ} → Said l s → Said l u → Tail r → Tail q → label l s ++ r ≡ label l u ++ q → Told s u r q
read_label Label.None s u a b tr tq e =
    record { word = a.0 ∙ sym b.0; scope = a.1 ∙ sym b.1; number = a.2 ∙ sym b.2; name = a.3 ∙ sym b.3; rest = e }
read_label Label.Ident s u {r} {q} a b tr tq e =
    let f = sym (append_assoc (32 ∷ s.name) (32 ∷ decimal s.scope) r) ∙ e ∙ append_assoc (32 ∷ u.name) (32 ∷ decimal u.scope) q in
    let x = read_run s.name u.name (name_free s.name a.3) (name_free u.name b.3) blank blank f in
    let y = read_number s.scope u.scope (omega (arith, a.1)) (omega (arith, b.1)) (marked tr) (marked tq) x.1 in
    record { word = a.0 ∙ sym b.0; scope = y.0; number = a.2 ∙ sym b.2; name = x.0; rest = y.1 }
read_label Label.Name s u a b tr tq e =
    let x = read_run s.name u.name (name_free s.name a.3) (name_free u.name b.3) (marked tr) (marked tq) e in
    record { word = a.0 ∙ sym b.0; scope = a.1 ∙ sym b.1; number = a.2 ∙ sym b.2; name = x.0; rest = x.1 }
read_label Label.Scope s u a b tr tq e =
    let y = read_number s.scope u.scope (omega (arith, a.1)) (omega (arith, b.1)) (marked tr) (marked tq) e in
    record { word = a.0 ∙ sym b.0; scope = y.0; number = a.2 ∙ sym b.2; name = a.3 ∙ sym b.3; rest = y.1 }
read_label Label.Variables s u a b tr tq e =
    let w = read_word s.word u.word (marked tr) (marked tq) e in
    record { word = w.0; scope = a.1 ∙ sym b.1; number = a.2 ∙ sym b.2; name = a.3 ∙ sym b.3; rest = w.1 }
read_label Label.Function s u a b tr tq e =
    let w = read_dash s.word u.word (function_word s.word a.0) (function_word u.word b.0) tr tq e in
    record { word = w.0; scope = a.1 ∙ sym b.1; number = a.2 ∙ sym b.2; name = a.3 ∙ sym b.3; rest = w.1 }
read_label Label.Handle s u {r} {q} a b tr tq e =
    let f = sym (append_assoc (32 ∷ text_of s.word) (32 ∷ decimal s.number) r) ∙ e ∙ append_assoc (32 ∷ text_of u.word) (32 ∷ decimal u.number) q in
    let w = read_word s.word u.word blank blank f in
    let y = read_number s.number u.number (omega (arith, a.2)) (omega (arith, b.2)) (marked tr) (marked tq) w.1 in
    record { word = w.0; scope = a.1 ∙ sym b.1; number = y.0; name = a.3 ∙ sym b.3; rest = y.1 }
read_label Label.Text s u {r} {q} a b tr tq e =
    let g : (escaped s.name ++ (34 ∷ [])) ++ r ≡ (escaped u.name ++ (34 ∷ [])) ++ q = cc in
    let x = read_text_lem s.name u.name r q (sym (append_assoc (escaped s.name) (34 ∷ []) r) ∙ g ∙ append_assoc (escaped u.name) (34 ∷ []) q) in
    record { word = a.0 ∙ sym b.0; scope = a.1 ∙ sym b.1; number = a.2 ∙ sym b.2; name = x.0; rest = x.1 }
read_label Label.Truth s u a b tr tq e =
    let w = read_word s.word u.word (marked tr) (marked tq) e in
    record { word = w.0; scope = a.1 ∙ sym b.1; number = a.2 ∙ sym b.2; name = a.3 ∙ sym b.3; rest = w.1 }

four : (a b c d r : List ℕ) → (a ++ (b ++ (c ++ d))) ++ r ≡ a ++ (b ++ (c ++ (d ++ r)))
four a b c d r = simp append_assoc

abbrev says_of : Kind → Word → ℕ → ℕ → List ℕ → ℕ → ℕ → Says
says_of k w s n bs lo hi = record { kind = k; word = w; scope = s; number = n; name = bs; span = record { lo = lo; hi = hi } }

same_says : (s u : Says) → s.kind ≡ u.kind → s.word ≡ u.word → s.scope ≡ u.scope → s.number ≡ u.number → s.name ≡ u.name → s.span.lo ≡ u.span.lo → s.span.hi ≡ u.span.hi → s ≡ u
same_says s u k w o n m l h =
    let e : says_of s.kind s.word s.scope s.number s.name s.span.lo s.span.hi ≡ says_of u.kind u.word u.scope u.number u.name u.span.lo u.span.hi = cc in
    e

read_head : (s u : Says) {r q : List ℕ} → Sound s → Sound u → Tail r → Tail q → head s ++ r ≡ head u ++ q → (s ≡ u) × (r ≡ q)
read_head s u {r} {q} a b tr tq e =
    let l = label (label_of s.kind) s in
    let m = label (label_of u.kind) u in
    let f = sym (four (word_of s.kind) (32 ∷ decimal s.span.lo) (32 ∷ decimal s.span.hi) l r) ∙ e ∙ four (word_of u.kind) (32 ∷ decimal u.span.lo) (32 ∷ decimal u.span.hi) m q in
    let k = split (word_of s.kind) (word_of u.kind) (kind-told s.kind).1 (kind-told u.kind).1 blank blank f in
    let same = same_kind s.kind u.kind k.0 in
    let lo = read_number s.span.lo u.span.lo (omega (arith, a.0)) (omega (arith, b.0)) blank blank k.1 in
    let hi = read_number s.span.hi u.span.hi (omega (arith, a.1)) (omega (arith, b.1)) (label_marked (label_of s.kind) s tr) (label_marked (label_of u.kind) u tq) lo.1 in
    let t = read_label (label_of s.kind) s u a.2 (subst (λ j. Said (label_of j) u) (sym same) b.2) tr tq (hi.1 ∙ ap (λ j. label (label_of j) u ++ q) (sym same)) in
    (same_says s u same t.word t.scope t.number t.name lo.0 hi.0, t.rest)

parts_tail : (fs : Forms) (r : List ℕ) → Tail (parts fs ++ (41 ∷ r))
parts_tail nil r = end
parts_tail (cons (form s gs) fs) r = part

-- a form and what stands behind it
written_then : (s : Says) (fs : Forms) (r : List ℕ) → written (form s fs) ++ r ≡ 40 ∷ (head s ++ (parts fs ++ (41 ∷ r)))
written_then s fs r = ap (λ x. 40 ∷ x) (append_assoc (head s) (parts fs ++ (41 ∷ [])) r ∙ ap (λ x. head s ++ x) (append_assoc (parts fs) (41 ∷ []) r))

parts_then : (t : Form) (fs : Forms) (r : List ℕ) → parts (cons t fs) ++ r ≡ 32 ∷ (written t ++ (parts fs ++ r))
parts_then t fs r = ap (λ x. 32 ∷ x) (append_assoc (written t) (parts fs) r)

same_rest : {x y : ℕ} {r q : List ℕ} → x ∷ r ≡ y ∷ q → r ≡ q
same_rest e = cc

mutual
  read_form : (t u : Form) → AllSaid t → AllSaid u → (r q : List ℕ) → written t ++ r ≡ written u ++ q → (t ≡ u) × (r ≡ q)
  read_form (form s fs) (form u gs) a b r q e =
      let f = same_rest (sym (written_then s fs r) ∙ e ∙ written_then u gs q) in
      let h = read_head s u a.0 b.0 (parts_tail fs r) (parts_tail gs q) f in
      let p = read_parts fs gs a.1 b.1 r q h.1 in
      (ap₂ form h.0 p.0, p.1)

  read_parts : (fs gs : Forms) → AllSaids fs → AllSaids gs → (r q : List ℕ) → parts fs ++ (41 ∷ r) ≡ parts gs ++ (41 ∷ q) → (fs ≡ gs) × (r ≡ q)
  read_parts nil nil a b r q e = (refl, same_rest e)
  read_parts nil (cons u gs) a b r q e = absurd (let h : ◌≡◌ {A = ℕ} 41 32 = cc in omega arith)
  read_parts (cons t fs) nil a b r q e = absurd (let h : ◌≡◌ {A = ℕ} 32 41 = cc in omega arith)
  read_parts (cons t fs) (cons u gs) a b r q e =
      let f = same_rest (sym (parts_then t fs (41 ∷ r)) ∙ e ∙ parts_then u gs (41 ∷ q)) in
      let x = read_form t u a.0 b.0 (parts fs ++ (41 ∷ r)) (parts gs ++ (41 ∷ q)) f in
      let y = read_parts fs gs a.1 b.1 r q x.1 in
      (ap₂ cons x.0 y.0, y.1)

read_lines : (fs gs : Forms) → AllSaids fs → AllSaids gs → lines fs ≡ lines gs → fs ≡ gs
read_lines nil nil a b e = refl
read_lines nil (cons (form s hs) gs) a b e = cc
read_lines (cons (form s hs) fs) nil a b e = cc
read_lines (cons t fs) (cons u gs) a b e =
    let x = read_form t u a.0 b.0 (10 ∷ lines fs) (10 ∷ lines gs) e in
    ap₂ cons x.0 (read_lines fs gs a.1 b.1 (same_rest x.1))

pub injective : Injective
injective (form s fs) (form u gs) a b e =
    let h = read_head s u a.0 b.0 end end (same_rest e) in
    ap₂ form h.0 (read_lines fs gs a.1 b.1 (same_rest (same_rest h.1)))
