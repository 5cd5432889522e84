-- Which modules are well formed: what each form may say, and the table of parts of each kind.
use Rattle.std.specs.Prelude.{◌≡◌, ℕ, suc, ◌≤◌, Bool, true, false, List, [], ◌∷◌}
use Rattle.tables.specs.Text.{name}
use Rattle.tables.specs.declared.kind.Kind.{Kind}
use Rattle.tables.specs.declared.kind.Word.{Word}
use Rattle.tables.specs.declared.node.Span.{Span}
use Rattle.grammar.specs.declared.group.Sort.{Sort}
use Rattle.grammar.specs.declared.label.Label.{Label}
use Rattle.grammar.specs.Groups.{group, belongs}
use Rattle.grammar.specs.Labels.{label_of}
use Rattle.grammar.specs.Forms.{Says, Form, form, Forms, nil, cons}

-- a span is 0 0, or 1 ≤ lo ≤ hi ≤ limit; the limit is one more than the source's length
abbrev pub Placed : ℕ → Span → Type 0
Placed limit s = (s.lo ≤ s.hi) × (s.hi ≤ limit) × (s.lo ≡ 0 → s.hi ≡ 0)

-- what words may be said
abbrev pub says_variables : Word → Bool
says_variables Word.Var = true
says_variables Word.Let = true
says_variables Word.Const = true
says_variables w = false

abbrev pub says_function : Word → Bool
says_function Word.Bare = true
says_function Word.Named = true
says_function w = false

abbrev pub says_handle : Word → Bool
says_handle Word.S = true
says_handle Word.C = true
says_handle w = false

abbrev pub says_truth : Word → Bool
says_truth Word.False = true
says_truth Word.True = true
says_truth w = false

-- a form says what its label asks for, and nothing else
abbrev pub Said : Label → Says → Type 0
Said Label.None s = (s.word ≡ Word.Bare) × (s.scope ≡ 0) × (s.number ≡ 0) × (s.name ≡ [])
Said Label.Ident s = (s.word ≡ Word.Bare) × (s.scope ≤ 65535) × (s.number ≡ 0) × (name s.name ≡ true)
Said Label.Name s = (s.word ≡ Word.Bare) × (s.scope ≡ 0) × (s.number ≡ 0) × (name s.name ≡ true)
Said Label.Scope s = (s.word ≡ Word.Bare) × (s.scope ≤ 65535) × (s.number ≡ 0) × (s.name ≡ [])
Said Label.Variables s = (says_variables s.word ≡ true) × (s.scope ≡ 0) × (s.number ≡ 0) × (s.name ≡ [])
Said Label.Function s = (says_function s.word ≡ true) × (s.scope ≡ 0) × (s.number ≡ 0) × (s.name ≡ [])
Said Label.Handle s = (says_handle s.word ≡ true) × (s.scope ≡ 0) × (s.number ≤ 65535) × (s.name ≡ [])
Said Label.Text s = (s.word ≡ Word.Bare) × (s.scope ≡ 0) × (s.number ≡ 0)
Said Label.Truth s = (says_truth s.word ≡ true) × (s.scope ≡ 0) × (s.number ≡ 0) × (s.name ≡ [])

pub record Proper (limit : ℕ) (s : Says) : Type 0 where
  pub placed : Placed limit s.span
  pub said : Said (label_of s.kind) s

pub data Part : Type 0 where
  one : Sort → Part
  maybe : Sort → Part
  many : Sort → Part

-- a function that says no `-` has its `id` first
abbrev pub named : Word → List Part → List Part
named Word.Named ps = one Sort.Ident ∷ ps
named w ps = ps

-- what a member is of: a jsx name is of a jsx name
abbrev pub object : Sort → Sort
object Sort.JsxName = Sort.JsxName
object w = Sort.Expression

-- the parts of a form of a kind that says the word n and stands where w is wanted
abbrev pub parts : (w : Sort) (n : Word) → Kind → List Part
parts w n Kind.Module = many Sort.Item ∷ []
parts w n Kind.Import = many Sort.Ident ∷ []
parts w n Kind.Export = one Sort.Exported ∷ []
parts w n Kind.Deffn = named n (many Sort.Pattern ∷ one Sort.Block ∷ [])
parts w n Kind.Defexpr = one Sort.Expression ∷ []
parts w n Kind.Expr = one Sort.Expression ∷ []
parts w n Kind.Var = one Sort.Decl ∷ many Sort.Decl ∷ []
parts w n Kind.Func = one Sort.Ident ∷ many Sort.Pattern ∷ one Sort.Block ∷ []
parts w n Kind.Return = maybe Sort.Expression ∷ []
parts w n Kind.If = one Sort.Expression ∷ one Sort.Statement ∷ maybe Sort.Statement ∷ []
parts w n Kind.Block = many Sort.Statement ∷ []
parts w n Kind.Call = one Sort.Callee ∷ many Sort.Expression ∷ []
parts w n Kind.Member = one (object w) ∷ one Sort.Prop ∷ []
parts w n Kind.Array = many Sort.Expression ∷ []
parts w n Kind.Op = one Sort.Expression ∷ maybe Sort.Expression ∷ maybe Sort.Expression ∷ []
parts w n Kind.Assign = one Sort.Target ∷ one Sort.Expression ∷ []
parts w n Kind.Arrow = many Sort.Pattern ∷ one Sort.Body ∷ []
parts w n Kind.Fn = named n (many Sort.Pattern ∷ one Sort.Block ∷ [])
parts w n Kind.Tagged = one Sort.Expression ∷ many Sort.Expression ∷ []
parts w n Kind.Jsx = one Sort.JsxName ∷ many Sort.Attr ∷ many Sort.Expression ∷ []
parts w n Kind.Pat = many Sort.Pattern ∷ []
parts w n Kind.Dflt = one Sort.Pattern ∷ one Sort.Expression ∷ []
parts w n Kind.Decl = one Sort.Pattern ∷ maybe Sort.Expression ∷ []
parts w n Kind.Attr = one Sort.Expression ∷ []
parts w n k = []

mutual
  -- a form that may stand where w is wanted
  pub data Good (limit : ℕ) : (w : Sort) → Form → Type 0 where
    good : {w : Sort} {s : Says} {fs : Forms} → belongs w (group s.kind) ≡ true → Proper limit s → Fit limit (parts w s.word s.kind) fs → Good limit w (form s fs)

  -- forms that are as some parts ask
  pub data Fit (limit : ℕ) : List Part → Forms → Type 0 where
    none : Fit limit [] nil
    first : {w : Sort} {ps : List Part} {t : Form} {fs : Forms} → Good limit w t → Fit limit ps fs → Fit limit (one w ∷ ps) (cons t fs)
    missing : {w : Sort} {ps : List Part} {fs : Forms} → Fit limit ps fs → Fit limit (maybe w ∷ ps) fs
    present : {w : Sort} {ps : List Part} {t : Form} {fs : Forms} → Good limit w t → Fit limit ps fs → Fit limit (maybe w ∷ ps) (cons t fs)
    last : {w : Sort} {ps : List Part} {fs : Forms} → Fit limit ps fs → Fit limit (many w ∷ ps) fs
    more : {w : Sort} {ps : List Part} {t : Form} {fs : Forms} → Good limit w t → Fit limit (many w ∷ ps) fs → Fit limit (many w ∷ ps) (cons t fs)

-- a well-formed module over a source
abbrev pub WellFormed : (source : ℕ) → Form → Type 0
WellFormed source m = Good (suc source) Sort.Module m
