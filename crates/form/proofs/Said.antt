-- Which tokens may still follow where the reader is: they are just those that lead on.
use Rattle.std.proofs.Common.{◌≡◌, ℕ, ◌^◌, ◌<◌, ◌≤◌, Bool, true, false, cond, eqb, leb, List, [], ◌∷◌, Some, None, Option, sym, refl, ap, ◌∙◌, subst, arith}
use Rattle.std.specs.Str.{bytes_eq}
use Rattle.std.proofs.lemmas.Bool.{leb-true, and_parts, eqb-true, false≢true}
use Rattle.tables.specs.declared.kind.Kind.{Kind}
use Rattle.tables.specs.declared.kind.Word.{Word}
use Rattle.tables.specs.declared.node.Node.{Node}
use Rattle.tables.specs.declared.node.Span.{Span}
use Rattle.lex.specs.Tokens.{Tok, closes, blank, feed, run, end}
use Rattle.grammar.specs.declared.label.Label.{Label}
use Rattle.grammar.specs.declared.rest.Rest.{Rest}
use Rattle.grammar.specs.Forms.{Says, Forms}
use Rattle.grammar.specs.Parts.{Placed, Said, says_function, says_variables}
use Rattle.grammar.specs.Readings.{opening, Reads, Items}
use Rattle.grammar.specs.Rests.{after, may_dash}
use Rattle.grammar.specs.Words.{text_of, variables_of}
use Rattle.reader.specs.declared.mode.Field.{Field}
use Rattle.reader.specs.declared.mode.Frame.{Frame}
use Rattle.reader.specs.Machine.{mapped, hi_from, with_hi}
use Rattle.form.proofs.Toks.{due, field_toks, field_text, dashed, part_toks, line_toks}
use Rattle.form.proofs.States.{opening-same}

-- what a form with a label says at a field
abbrev pub Due : Label → Field → Type 0
Due Label.None Field.Lo = Unit {0}
Due Label.None Field.Hi = Unit {0}
Due Label.None Field.Name = ⊥
Due Label.None Field.Scope = ⊥
Due Label.None Field.Variables = ⊥
Due Label.None Field.End = ⊥
Due Label.Ident Field.Lo = Unit {0}
Due Label.Ident Field.Hi = Unit {0}
Due Label.Ident Field.Name = Unit {0}
Due Label.Ident Field.Scope = Unit {0}
Due Label.Ident Field.Variables = ⊥
Due Label.Ident Field.End = ⊥
Due Label.Name Field.Lo = Unit {0}
Due Label.Name Field.Hi = Unit {0}
Due Label.Name Field.Name = Unit {0}
Due Label.Name Field.Scope = ⊥
Due Label.Name Field.Variables = ⊥
Due Label.Name Field.End = ⊥
Due Label.Scope Field.Lo = Unit {0}
Due Label.Scope Field.Hi = Unit {0}
Due Label.Scope Field.Name = ⊥
Due Label.Scope Field.Scope = Unit {0}
Due Label.Scope Field.Variables = ⊥
Due Label.Scope Field.End = ⊥
Due Label.Variables Field.Lo = Unit {0}
Due Label.Variables Field.Hi = Unit {0}
Due Label.Variables Field.Name = ⊥
Due Label.Variables Field.Scope = ⊥
Due Label.Variables Field.Variables = Unit {0}
Due Label.Variables Field.End = ⊥
Due Label.Function Field.Lo = Unit {0}
Due Label.Function Field.Hi = Unit {0}
Due Label.Function Field.Name = ⊥
Due Label.Function Field.Scope = ⊥
Due Label.Function Field.Variables = ⊥
Due Label.Function Field.End = ⊥
Due Label.Handle Field.Lo = Unit {0}
Due Label.Handle Field.Hi = Unit {0}
Due Label.Handle Field.Name = ⊥
Due Label.Handle Field.Scope = ⊥
Due Label.Handle Field.Variables = ⊥
Due Label.Handle Field.End = ⊥
Due Label.Text Field.Lo = Unit {0}
Due Label.Text Field.Hi = Unit {0}
Due Label.Text Field.Name = ⊥
Due Label.Text Field.Scope = ⊥
Due Label.Text Field.Variables = ⊥
Due Label.Text Field.End = ⊥
Due Label.Truth Field.Lo = Unit {0}
Due Label.Truth Field.Hi = Unit {0}
Due Label.Truth Field.Name = ⊥
Due Label.Truth Field.Scope = ⊥
Due Label.Truth Field.Variables = ⊥
Due Label.Truth Field.End = ⊥

-- lo is known when hi is read
abbrev pub KnownLo : Field → ℕ → Says → Type 0
KnownLo Field.Lo lo s = Unit {0}
KnownLo Field.Hi lo s = s.span.lo ≡ lo
KnownLo Field.Name lo s = Unit {0}
KnownLo Field.Scope lo s = Unit {0}
KnownLo Field.Variables lo s = Unit {0}
KnownLo Field.End lo s = Unit {0}

mapped_some : {X : Type 0} (o : Option X) (f : X → Node) (n : Node) → mapped o f ≡ Some n → (x : X) × (o ≡ Some x) × (f x ≡ n)
mapped_some None f n e = absurd (no e)
  where
    no : ◌≡◌ {A = Option Node} None (Some n) → ⊥
    no p = let z : ◌≡◌ {A = ℕ} 0 1 = cc in omega arith
mapped_some (Some x) f n e = (x, refl, cc)

cond_some : (b : Bool) (m n : Node) → cond b (Some m) None ≡ Some n → (b ≡ true) × (m ≡ n)
cond_some true m n e = (refl, cc)
cond_some false m n e = absurd (no e)
  where
    no : ◌≡◌ {A = Option Node} None (Some n) → ⊥
    no p = let z : ◌≡◌ {A = ℕ} 0 1 = cc in omega arith

hi_some : (lo : ℕ) (m n : Node) (o : Option ℕ) → hi_from lo m o ≡ Some n → (x : ℕ) × (o ≡ Some x) × (lo ≤ x) × (with_hi m x ≡ n)
hi_some lo m n None e = absurd (no e)
  where
    no : ◌≡◌ {A = Option Node} None (Some n) → ⊥
    no p = let z : ◌≡◌ {A = ℕ} 0 1 = cc in omega arith
hi_some lo m n (Some x) e = let q = cond_some (leb lo x) (with_hi m x) n e in (x, refl, leb-true lo x q.0, q.1)

same_text : (xs ys : List ℕ) → bytes_eq xs ys ≡ true → xs ≡ ys
same_text [] [] e = refl
same_text [] (y ∷ ys) e = absurd (false≢true e)
same_text (x ∷ xs) [] e = absurd (false≢true e)
same_text (x ∷ xs) (y ∷ ys) e = let q = and_parts (eqb x y) (bytes_eq xs ys) e in let a : x ≡ y = eqb-true x y q.0 in let b = same_text xs ys q.1 in cc

pub only_dash : (bs : List ℕ) → bytes_eq bs (45 ∷ []) ≡ true → bs ≡ 45 ∷ []
only_dash bs e = same_text bs (45 ∷ []) e

some_word : {v w : Word} → ◌≡◌ {A = Option Word} (Some v) (Some w) → v ≡ w
some_word e = cc

no_word : {w : Word} → ◌≡◌ {A = Option Word} None (Some w) → ⊥
no_word e = let z : ◌≡◌ {A = ℕ} 0 1 = cc in omega arith

variables_by : (bs : List ℕ) (w : Word) (a b c : Bool) → bytes_eq bs (text_of Word.Const) ≡ a → bytes_eq bs (text_of Word.Let) ≡ b → bytes_eq bs (text_of Word.Var) ≡ c → cond a (Some Word.Const) (cond b (Some Word.Let) (cond c (Some Word.Var) None)) ≡ Some w → (bs ≡ text_of w) × (says_variables w ≡ true)
variables_by bs w true b c p q r e = (same_text bs (text_of Word.Const) p ∙ ap text_of (some_word e), ap says_variables (sym (some_word e)))
variables_by bs w false true c p q r e = (same_text bs (text_of Word.Let) q ∙ ap text_of (some_word e), ap says_variables (sym (some_word e)))
variables_by bs w false false true p q r e = (same_text bs (text_of Word.Var) r ∙ ap text_of (some_word e), ap says_variables (sym (some_word e)))
variables_by bs w false false false p q r e = absurd (no_word e)

variables_only : (bs : List ℕ) (w : Word) → variables_of bs ≡ Some w → (bs ≡ text_of w) × (says_variables w ≡ true)
variables_only bs w e = variables_by bs w (bytes_eq bs (text_of Word.Const)) (bytes_eq bs (text_of Word.Let)) (bytes_eq bs (text_of Word.Var)) refl refl refl e

abbrev fresh : Kind → Word → ℕ → List ℕ → Span → Says
fresh k w x n sp = record { kind = k; word = w; scope = x; number = 0; name = n; span = sp }

abbrev dummy : Span
dummy = record { lo = 0; hi = 0 }

abbrev spanned : Says → Span → Says
spanned s sp = fresh s.kind s.word s.scope s.name sp

module _ (limit : ℕ) (w32 : limit < 2 ^ 32) where
  -- what may follow a form after which r is wanted, by the forms around it: in a module lines, in a form more parts and its end
  abbrev pub Follows : Rest → List Frame → List Tok → Type 0
  Follows r [] ts = (items : Forms) × Items limit items × (ts ≡ feed ∷ line_toks items (end ∷ []))
  Follows r (g ∷ st) ts = (w : Word) × (fs : Forms) × (rest : List Tok) × (may_dash r ≡ true → says_function w ≡ true) × Reads limit (opening r w) fs × (ts ≡ dashed (may_dash r) w (part_toks fs (closes ∷ rest))) × Follows g.later st rest

  -- what may follow within what a form says, from a field on
  pub record Heads (l : Label) (f : Field) (r : Rest) (k : Kind) (lo : ℕ) (after : Rest) (st : List Frame) (ts : List Tok) : Type 0 where
    pub says : Says
    pub fs : Forms
    pub rest : List Tok
    pub kind : says.kind ≡ k
    pub known : KnownLo f lo says
    pub placed : Placed limit says.span
    pub said : Said l says
    pub reads : Reads limit (opening r says.word) fs
    pub toks : ts ≡ field_toks (due l f) says (dashed (may_dash r) says.word (part_toks fs (closes ∷ rest)))
    pub follows : Follows after st rest

  -- what may follow after a field
  abbrev pub Next : (next : Field) (l : Label) (r : Rest) (k : Kind) (lo : ℕ) (g : Frame) (st : List Frame) (ts : List Tok) → Type 0
  Next Field.Lo l r k lo g st ts = Heads l Field.Lo r k lo g.later st ts
  Next Field.Hi l r k lo g st ts = Heads l Field.Hi r k lo g.later st ts
  Next Field.Name l r k lo g st ts = Heads l Field.Name r k lo g.later st ts
  Next Field.Scope l r k lo g st ts = Heads l Field.Scope r k lo g.later st ts
  Next Field.Variables l r k lo g st ts = Heads l Field.Variables r k lo g.later st ts
  Next Field.End l r k lo g st ts = Follows r (g ∷ st) ts

  dummy-placed : Placed limit dummy
  dummy-placed = (omega arith, omega arith, λ e. refl)

  -- a form that has said everything, before its parts
  ended : (l : Label) (f : Field) (r : Rest) (k : Kind) (lo : ℕ) (g : Frame) (st : List Frame) (ts : List Tok) (s : Says) (bs : List ℕ) → may_dash r ≡ false → s.kind ≡ k → KnownLo f lo s → Placed limit s.span → Said l s → due l f ≡ f ∷ [] → bs ≡ field_text f s → Follows r (g ∷ st) ts → Heads l f r k lo g.later st (blank ∷ run bs ∷ ts)
  ended l f r k lo g st ts s bs plain kk kn pl sd du be fo =
      record {
        says = s;
        fs = fo.1;
        rest = fo.2;
        kind = kk;
        known = kn;
        placed = pl;
        said = sd;
        reads = subst (λ x. Reads limit x fo.1) (opening-same r fo.0 plain ∙ sym (opening-same r s.word plain)) fo.4;
        toks = ap (λ b. blank ∷ run b ∷ ts) be ∙ ap (λ x. blank ∷ run (field_text f s) ∷ x) (fo.5 ∙ ap (λ b. dashed b fo.0 (part_toks fo.1 (closes ∷ fo.2))) plain ∙ sym (ap (λ b. dashed b s.word (part_toks fo.1 (closes ∷ fo.2))) plain)) ∙ sym (ap (λ x. field_toks x s (dashed (may_dash r) s.word (part_toks fo.1 (closes ∷ fo.2)))) du);
        follows = fo.6;
      }

  -- one that goes on with another field, of which it says the same
  carried : (l : Label) (f f' : Field) (r : Rest) (k : Kind) (lo lo' : ℕ) (after : Rest) (st : List Frame) (ts : List Tok) (s : Says) (bs : List ℕ) (h : Heads l f' r k lo' after st ts) → s.kind ≡ k → s.word ≡ h.says.word → KnownLo f lo s → Placed limit s.span → Said l s → bs ≡ field_text f s → due l f ≡ f ∷ due l f' → ((xs : List Tok) → field_toks (due l f') h.says xs ≡ field_toks (due l f') s xs) → Heads l f r k lo after st (blank ∷ run bs ∷ ts)
  carried l f f' r k lo lo' after st ts s bs h kk ww kn pl sd be du same =
      record {
        says = s;
        fs = h.fs;
        rest = h.rest;
        kind = kk;
        known = kn;
        placed = pl;
        said = sd;
        reads = subst (λ w. Reads limit (opening r w) h.fs) (sym ww) h.reads;
        toks = ap (λ b. blank ∷ run b ∷ ts) be ∙ ap (λ x. blank ∷ run (field_text f s) ∷ x) (h.toks ∙ same _ ∙ ap (λ w. field_toks (due l f') s (dashed (may_dash r) w (part_toks h.fs (closes ∷ h.rest)))) (sym ww)) ∙ sym (ap (λ x. field_toks x s (dashed (may_dash r) s.word (part_toks h.fs (closes ∷ h.rest)))) du);
        follows = h.follows;
      }
