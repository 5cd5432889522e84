-- How many bytes a form says before its parts.
use Rattle.std.proofs.Common.{◌≡◌, ℕ, ◌+◌, ◌-◌, ◌*◌, ◌^◌, ◌<◌, ◌≤◌, min, max, true, false, cond, leb, List, [], ◌∷◌, ◌++◌, length, take, drop, decimal, arith, lit≤}
use Rattle.std.proofs.lemmas.Fmt.{length-decimal-le}
use Rattle.std.proofs.lemmas.List.{length-append, length-take}
use Rattle.tables.specs.Modules.{bytes_at}
use Rattle.tables.specs.declared.node.Place.{Place}
use Rattle.tables.specs.declared.kind.Kind.{Kind}
use Rattle.tables.specs.declared.kind.Word.{Word}
use Rattle.grammar.specs.declared.label.Label.{Label}
use Rattle.grammar.specs.Labels.{label_of}
use Rattle.grammar.specs.Words.{word_of, text_of}
use Rattle.grammar.specs.Forms.{Says, escape, escaped, dash, label, head}
use Rattle.printer.proofs.Adding.{escape-few}

pub bytes-few : (text : List ℕ) (p : Place) → length (bytes_at text p) ≤ p.len
bytes-few text p = elim (leb (p.at + p.len) (length text)) as (λ b. length (cond b (take p.len (drop p.at text)) []) ≤ p.len) [
  | true ↦ omega (arith, length-take p.len (drop p.at text))
  | false ↦ omega arith
]

decimal-few : (n : ℕ) → n < 2 ^ 32 → length (decimal n) ≤ 10
decimal-few n h = length-decimal-le 10 n (omega arith) (omega arith) (omega arith)

escaped-few : (bs : List ℕ) → length (escaped bs) ≤ 2 * length bs
escaped-few [] = omega arith
escaped-few (b ∷ bs) = omega (arith, escape-few b, escaped-few bs, length-append (escape b) (escaped bs))

word_few : (k : Kind) → length (word_of k) ≤ 8
word_few Kind.Module = lit≤ tt
word_few Kind.Import = lit≤ tt
word_few Kind.Export = lit≤ tt
word_few Kind.Deffn = lit≤ tt
word_few Kind.Defexpr = lit≤ tt
word_few Kind.Expr = lit≤ tt
word_few Kind.Var = lit≤ tt
word_few Kind.Func = lit≤ tt
word_few Kind.Return = lit≤ tt
word_few Kind.If = lit≤ tt
word_few Kind.Block = lit≤ tt
word_few Kind.Id = lit≤ tt
word_few Kind.Lit = lit≤ tt
word_few Kind.Call = lit≤ tt
word_few Kind.Member = lit≤ tt
word_few Kind.Array = lit≤ tt
word_few Kind.Op = lit≤ tt
word_few Kind.Assign = lit≤ tt
word_few Kind.Arrow = lit≤ tt
word_few Kind.Fn = lit≤ tt
word_few Kind.Tagged = lit≤ tt
word_few Kind.Jsx = lit≤ tt
word_few Kind.Pat = lit≤ tt
word_few Kind.Dflt = lit≤ tt
word_few Kind.Decl = lit≤ tt
word_few Kind.Prop = lit≤ tt
word_few Kind.Attr = lit≤ tt
word_few Kind.Kwimport = lit≤ tt
word_few Kind.Hand = lit≤ tt
word_few Kind.Str = lit≤ tt
word_few Kind.Bool = lit≤ tt

text_few : (w : Word) → length (text_of w) ≤ 5
text_few Word.Bare = lit≤ tt
text_few Word.Named = lit≤ tt
text_few Word.Var = lit≤ tt
text_few Word.Let = lit≤ tt
text_few Word.Const = lit≤ tt
text_few Word.S = lit≤ tt
text_few Word.C = lit≤ tt
text_few Word.False = lit≤ tt
text_few Word.True = lit≤ tt

dash-few : (w : Word) → length (dash w) ≤ 2
dash-few Word.Bare = lit≤ tt
dash-few Word.Named = lit≤ tt
dash-few Word.Var = lit≤ tt
dash-few Word.Let = lit≤ tt
dash-few Word.Const = lit≤ tt
dash-few Word.S = lit≤ tt
dash-few Word.C = lit≤ tt
dash-few Word.False = lit≤ tt
dash-few Word.True = lit≤ tt

module _ (s : Says) (named : length s.name ≤ 65535) (scoped : s.scope < 2 ^ 32) (counted : s.number < 2 ^ 32) where
  label-few : (l : Label) → length (label l s) ≤ 131073
  label-few Label.None = lit≤ tt
  label-few Label.Ident = omega (arith, length-append (32 ∷ s.name) (32 ∷ decimal s.scope), decimal-few s.scope scoped)
  label-few Label.Name = omega arith
  label-few Label.Scope = omega (arith, decimal-few s.scope scoped)
  label-few Label.Variables = omega (arith, text_few s.word)
  label-few Label.Function = omega (arith, dash-few s.word)
  label-few Label.Handle = omega (arith, length-append (32 ∷ text_of s.word) (32 ∷ decimal s.number), text_few s.word, decimal-few s.number counted)
  label-few Label.Text = omega (arith, length-append (escaped s.name) (34 ∷ []), escaped-few s.name)
  label-few Label.Truth = omega (arith, text_few s.word)

  pub head_few : s.span.lo < 2 ^ 32 → s.span.hi < 2 ^ 32 → length (head s) ≤ 131103
  head_few lo hi =
      let l = label (label_of s.kind) s in
      let b = (32 ∷ decimal s.span.hi) ++ l in
      let a = (32 ∷ decimal s.span.lo) ++ b in
      omega (arith, length-append (word_of s.kind) a, length-append (32 ∷ decimal s.span.lo) b, length-append (32 ∷ decimal s.span.hi) l, word_few s.kind, decimal-few s.span.lo lo, decimal-few s.span.hi hi, label-few (label_of s.kind))

-- a part more, after a blank
pub few-more : (at p next n b m : ℕ) → at < p → p < next → n + 2 ≤ 131106 * max 1 (p - at) → b ≡ min (n + 1) (2 ^ 64 - 1) → m + 1 ≤ b + 131106 * max 1 (next - p) → m + 2 ≤ 131106 * max 1 (next - at)
few-more at p next n b m l k h e f = omega arith

-- a line more
pub few_line : (p next n m b : ℕ) → p < next → n ≤ 131106 * p → m + 1 ≤ n + 131106 * max 1 (next - p) → b ≡ min (m + 1) (2 ^ 64 - 1) → b ≤ 131106 * next
few_line p next n m b l h f e = omega arith

-- a table of which the first node counts all nodes
pub few_all : (size p n r : ℕ) → size < 2 ^ 16 → p ≤ max 1 size → n ≤ 131106 * p → n ≡ min r (2 ^ 64 - 1) → n ≡ r
few_all size p n r s l h e = omega arith
