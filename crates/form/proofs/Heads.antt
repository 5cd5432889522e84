-- The reader goes past what a form says before its parts.
use Rattle.std.proofs.Common.{◌≡◌, ℕ, ◌^◌, ◌<◌, ◌≤◌, min, true, cond, eqb, List, ◌∷◌, length, set, Some, decimal, sym, refl, ap, ◌∙◌, ⊎_elim, arith}
use Rattle.std.proofs.lemmas.Bool.{cond-true, le-leb, cases_Bool, eqb-true, false≢true}
use Rattle.tables.specs.Modules.{made}
use Rattle.tables.specs.declared.kind.Kind.{Kind}
use Rattle.tables.specs.declared.kind.Word.{Word}
use Rattle.tables.specs.declared.node.Node.{Node}
use Rattle.tables.specs.declared.node.Place.{Place}
use Rattle.lex.specs.Numbers.{number_of}
use Rattle.lex.specs.Tokens.{Tok, blank, run}
use Rattle.lex.proofs.Numbers.{read_back}
use Rattle.grammar.specs.declared.label.Label.{Label}
use Rattle.grammar.specs.declared.rest.Rest.{Rest}
use Rattle.grammar.specs.Forms.{Says}
use Rattle.grammar.specs.Labels.{label_of}
use Rattle.grammar.specs.Parts.{Placed, Said, says_variables}
use Rattle.grammar.specs.Words.{text_of, variables_of}
use Rattle.reader.specs.declared.mode.Field.{Field}
use Rattle.reader.specs.declared.mode.Frame.{Frame}
use Rattle.reader.specs.declared.mode.Mode.{Mode}
use Rattle.reader.specs.Machine.{go, sum, perhaps, mapped, hi_from, with_lo, with_text, with_scope, with_word, fill, kept_at, next_field, advance, filled}
use Rattle.form.proofs.Toks.{due, field_toks}
use Rattle.form.proofs.Tabs.{Tab, at, word_by, place_by, text_by, bytes_by, nowhere, head_tab}
use Rattle.form.proofs.Past.{past, past_on}

-- a form of a kind has begun
abbrev pub begun : Kind → Tab → Tab
begun k τ = record { node = made k; nodes = τ.nodes; text = τ.text; count = τ.count; bytes = τ.bytes }

abbrev node_with : Says → Word → ℕ → Place → Node
node_with s w x p = record { kind = s.kind; word = w; scope = x; number = 0; text = p; size = 1; span = s.span }

abbrev while_said : Node → List ℕ → ℕ → Tab → Tab
while_said n x b τ = record { node = n; nodes = τ.nodes; text = x; count = τ.count; bytes = b }

-- the node enters the table
abbrev entered : Node → List ℕ → ℕ → Tab → Tab
entered n x b τ = record { node = n; nodes = set τ.nodes τ.count n; text = x; count = sum τ.count 1; bytes = b }

-- the same as head_tab, by the label
abbrev head_by : Label → Says → Tab → Tab
head_by l s τ = entered (node_with s (word_by l s.word) s.scope (place_by l τ.bytes s.name)) (text_by l τ.text τ.bytes s.name) (bytes_by l τ.bytes s.name) τ

-- the labels that a text to be loaded may have
abbrev pub Loadable : Label → Type 0
Loadable Label.Handle = ⊥
Loadable Label.Text = ⊥
Loadable Label.Truth = ⊥
Loadable l = Unit {0}

variables : (w : Word) → says_variables w ≡ true → variables_of (text_of w) ≡ Some w
variables Word.Var e = refl
variables Word.Let e = refl
variables Word.Const e = refl
variables n e = absurd (false≢true e)

module _ (d limit : ℕ) (w32 : limit < 2 ^ 32) (s : Says) (r : Rest) (st : List Frame) (τ : Tab) where
  -- one field
  field : (f : Field) (bs : List ℕ) (n n' : Node) (x : List ℕ) (b : ℕ) (ts : List Tok) → fill limit b f bs n ≡ Some n' → past d limit (at (Mode.Gap f r) st (while_said n x b τ)) (blank ∷ run bs ∷ ts) ≡ past d limit (advance (next_field (label_of n'.kind) f) r (filled (at (Mode.Said f r) st (while_said n x b τ)) f bs n')) ts
  field f bs n n' x b ts e = past_on d limit (at (Mode.Said f r) st (while_said n x b τ)) _ (run bs) ts (ap (λ o. perhaps 0 o (λ m. go (advance (next_field (label_of m.kind) f) r (filled (at (Mode.Said f r) st (while_said n x b τ)) f bs m)))) e)

  hi_read : Placed limit s.span → number_of (cond (eqb s.span.lo 0) 0 limit) (decimal s.span.hi) ≡ Some s.span.hi
  hi_read p = ⊎_elim
      (λ z. ap (λ b. number_of (cond b 0 limit) (decimal s.span.hi)) z ∙ (let q : s.span.hi ≡ 0 = p.2 (eqb-true _ _ z) in read_back 0 s.span.hi (omega arith) (omega arith)))
      (λ z. ap (λ b. number_of (cond b 0 limit) (decimal s.span.hi)) z ∙ (let q = p.1 in read_back limit s.span.hi q (omega arith)))
      (cases_Bool (eqb s.span.lo 0))

  spanned : (ts : List Tok) → Placed limit s.span → past d limit (at (Mode.Gap Field.Lo r) st (begun s.kind τ)) (blank ∷ run (decimal s.span.lo) ∷ blank ∷ run (decimal s.span.hi) ∷ ts) ≡ past d limit (advance (next_field (label_of s.kind) Field.Hi) r (at (Mode.Said Field.Hi r) st (while_said (node_with s Word.Bare 0 nowhere) τ.text τ.bytes τ))) ts
  spanned ts p =
      let q = p.0 in
      let q' = p.1 in
      let lo : s.span.lo ≤ limit = omega arith in
      field Field.Lo (decimal s.span.lo) (made s.kind) (with_lo (made s.kind) s.span.lo) τ.text τ.bytes (blank ∷ run (decimal s.span.hi) ∷ ts) (ap (λ o. mapped o (with_lo (made s.kind))) (read_back limit s.span.lo lo (omega arith)))
      ∙ field Field.Hi (decimal s.span.hi) (with_lo (made s.kind) s.span.lo) (node_with s Word.Bare 0 nowhere) τ.text τ.bytes ts (ap (hi_from s.span.lo (with_lo (made s.kind) s.span.lo)) (hi_read p) ∙ cond-true _ _ _ (le-leb s.span.lo s.span.hi q))

  -- after the span nothing more
  plain : (l : Label) (ts : List Tok) → label_of s.kind ≡ l → next_field l Field.Hi ≡ Field.End → s.scope ≡ 0
      → past d limit (advance (next_field (label_of s.kind) Field.Hi) r (at (Mode.Said Field.Hi r) st (while_said (node_with s Word.Bare 0 nowhere) τ.text τ.bytes τ))) ts ≡ past d limit (at (Mode.Parts r) st (entered (node_with s Word.Bare s.scope nowhere) τ.text τ.bytes τ)) ts
  plain l ts e n z =
      ap (λ f. past d limit (advance f r (at (Mode.Said Field.Hi r) st (while_said (node_with s Word.Bare 0 nowhere) τ.text τ.bytes τ))) ts) (ap (λ k. next_field k Field.Hi) e ∙ n)
      ∙ ap (λ x. past d limit (at (Mode.Parts r) st (entered (node_with s Word.Bare x nowhere) τ.text τ.bytes τ)) ts) (sym z)

  abbrev named : Place
  named = record { at = min τ.bytes 65535; len = min (length s.name) 65535 }

  by_label : (l : Label) (ts : List Tok) → label_of s.kind ≡ l → Loadable l → Placed limit s.span → Said l s → past d limit (at (Mode.Gap Field.Lo r) st (begun s.kind τ)) (field_toks (due l Field.Lo) s ts) ≡ past d limit (at (Mode.Parts r) st (head_by l s τ)) ts
  by_label Label.None ts e y p h = spanned ts p ∙ plain Label.None ts e refl h.1
  by_label Label.Function ts e y p h = spanned ts p ∙ plain Label.Function ts e refl h.1
  by_label Label.Ident ts e y p h =
      spanned (blank ∷ run s.name ∷ blank ∷ run (decimal s.scope) ∷ ts) p
      ∙ ap (λ k. past d limit (advance (next_field k Field.Hi) r (at (Mode.Said Field.Hi r) st (while_said (node_with s Word.Bare 0 nowhere) τ.text τ.bytes τ))) (blank ∷ run s.name ∷ blank ∷ run (decimal s.scope) ∷ ts)) e
      ∙ field Field.Name s.name (node_with s Word.Bare 0 nowhere) (with_text (node_with s Word.Bare 0 nowhere) named) τ.text τ.bytes (blank ∷ run (decimal s.scope) ∷ ts) (cond-true _ _ _ h.3)
      ∙ ap (λ k. past d limit (advance (next_field k Field.Name) r (at (Mode.Said Field.Name r) st (while_said (with_text (node_with s Word.Bare 0 nowhere) named) (kept_at τ.text τ.bytes s.name) (sum τ.bytes (length s.name)) τ))) (blank ∷ run (decimal s.scope) ∷ ts)) e
      ∙ field Field.Scope (decimal s.scope) (with_text (node_with s Word.Bare 0 nowhere) named) (with_scope (with_text (node_with s Word.Bare 0 nowhere) named) s.scope) (kept_at τ.text τ.bytes s.name) (sum τ.bytes (length s.name)) ts (ap (λ o. mapped o (with_scope (with_text (node_with s Word.Bare 0 nowhere) named))) (let q = h.1 in read_back 65535 s.scope q (omega arith)))
  by_label Label.Name ts e y p h =
      spanned (blank ∷ run s.name ∷ ts) p
      ∙ ap (λ k. past d limit (advance (next_field k Field.Hi) r (at (Mode.Said Field.Hi r) st (while_said (node_with s Word.Bare 0 nowhere) τ.text τ.bytes τ))) (blank ∷ run s.name ∷ ts)) e
      ∙ field Field.Name s.name (node_with s Word.Bare 0 nowhere) (with_text (node_with s Word.Bare 0 nowhere) named) τ.text τ.bytes (ts) (cond-true _ _ _ h.3)
      ∙ ap (λ k. past d limit (advance (next_field k Field.Name) r (at (Mode.Said Field.Name r) st (while_said (with_text (node_with s Word.Bare 0 nowhere) named) (kept_at τ.text τ.bytes s.name) (sum τ.bytes (length s.name)) τ))) (ts)) e
      ∙ ap (λ x. past d limit (at (Mode.Parts r) st (entered (node_with s Word.Bare x named) (kept_at τ.text τ.bytes s.name) (sum τ.bytes (length s.name)) τ)) ts) (sym h.1)
  by_label Label.Scope ts e y p h =
      spanned (blank ∷ run (decimal s.scope) ∷ ts) p
      ∙ ap (λ k. past d limit (advance (next_field k Field.Hi) r (at (Mode.Said Field.Hi r) st (while_said (node_with s Word.Bare 0 nowhere) τ.text τ.bytes τ))) (blank ∷ run (decimal s.scope) ∷ ts)) e
      ∙ field Field.Scope (decimal s.scope) (node_with s Word.Bare 0 nowhere) (with_scope (node_with s Word.Bare 0 nowhere) s.scope) τ.text τ.bytes ts (ap (λ o. mapped o (with_scope (node_with s Word.Bare 0 nowhere))) (let q = h.1 in read_back 65535 s.scope q (omega arith)))
  by_label Label.Variables ts e y p h =
      spanned (blank ∷ run (text_of s.word) ∷ ts) p
      ∙ ap (λ k. past d limit (advance (next_field k Field.Hi) r (at (Mode.Said Field.Hi r) st (while_said (node_with s Word.Bare 0 nowhere) τ.text τ.bytes τ))) (blank ∷ run (text_of s.word) ∷ ts)) e
      ∙ field Field.Variables (text_of s.word) (node_with s Word.Bare 0 nowhere) (with_word (node_with s Word.Bare 0 nowhere) s.word) τ.text τ.bytes ts (ap (λ o. mapped o (with_word (node_with s Word.Bare 0 nowhere))) (variables s.word h.0))
      ∙ ap (λ x. past d limit (at (Mode.Parts r) st (entered (node_with s s.word x nowhere) τ.text τ.bytes τ)) ts) (sym h.1)
  by_label Label.Handle ts e y p h = absurd y
  by_label Label.Text ts e y p h = absurd y
  by_label Label.Truth ts e y p h = absurd y

  pub headed : (ts : List Tok) → Loadable (label_of s.kind) → Placed limit s.span → Said (label_of s.kind) s → past d limit (at (Mode.Gap Field.Lo r) st (begun s.kind τ)) (field_toks (due (label_of s.kind) Field.Lo) s ts) ≡ past d limit (at (Mode.Parts r) st (head_tab s τ)) ts
  headed ts y p h = by_label (label_of s.kind) ts refl y p h
