-- A module as a tree of forms, and the text that is printed of it.
use Rattle.std.specs.Prelude.{ℕ, suc, ◌+◌, cond, List, [], ◌∷◌, ◌++◌, decimal, ◌==◌}
use Rattle.tables.specs.declared.kind.Kind.{Kind}
use Rattle.tables.specs.declared.kind.Word.{Word}
use Rattle.tables.specs.declared.node.Span.{Span}
use Rattle.grammar.specs.declared.label.Label.{Label}
use Rattle.grammar.specs.Labels.{label_of}
use Rattle.grammar.specs.Words.{word_of, text_of}

-- what a form says, besides its parts: a name is that of an `id` or `prop`, or the text of a `str`
pub record Says : Type 0 where
  pub kind : Kind
  pub word : Word
  pub scope : ℕ
  pub number : ℕ
  pub name : List ℕ
  pub span : Span

-- a form with its parts in order; a module is one whose parts are its items
mutual
  pub data Form : Type 0 where
    form : Says → Forms → Form

  pub data Forms : Type 0 where
    nil : Forms
    cons : Form → Forms → Forms

-- how many forms there are: a node is one bracket pair
abbrev mutual
  pub size : Form → ℕ
  size (form s fs) = suc (sizes fs)

  pub sizes : Forms → ℕ
  sizes nil = 0
  sizes (cons t fs) = size t + sizes fs

-- the names and texts in their order; the text size is their length
abbrev mutual
  pub names : Form → List ℕ
  names (form s fs) = s.name ++ all_names fs

  pub all_names : Forms → List ℕ
  all_names nil = []
  all_names (cons t fs) = names t ++ all_names fs

-- in a text a quote, a backslash and a line feed are written by a backslash
abbrev pub escape : ℕ → List ℕ
escape b = cond (b == 34) (92 ∷ 34 ∷ []) (cond (b == 92) (92 ∷ 92 ∷ []) (cond (b == 10) (92 ∷ 110 ∷ []) (b ∷ [])))

abbrev pub escaped : List ℕ → List ℕ
escaped [] = []
escaped (b ∷ bs) = escape b ++ escaped bs

-- a function without a name says `-`
abbrev pub dash : Word → List ℕ
dash Word.Bare = 32 ∷ 45 ∷ []
dash n = []

-- what a form says after its span
abbrev pub label : Label → Says → List ℕ
label Label.None s = []
label Label.Ident s = (32 ∷ s.name) ++ (32 ∷ decimal s.scope)
label Label.Name s = 32 ∷ s.name
label Label.Scope s = 32 ∷ decimal s.scope
label Label.Variables s = 32 ∷ text_of s.word
label Label.Function s = dash s.word
label Label.Handle s = (32 ∷ text_of s.word) ++ (32 ∷ decimal s.number)
label Label.Text s = 32 ∷ 34 ∷ (escaped s.name ++ (34 ∷ []))
label Label.Truth s = 32 ∷ text_of s.word

-- from the kind to the first part
abbrev pub head : Says → List ℕ
head s = word_of s.kind ++ ((32 ∷ decimal s.span.lo) ++ ((32 ∷ decimal s.span.hi) ++ label (label_of s.kind) s))

abbrev mutual
  pub written : Form → List ℕ
  written (form s fs) = 40 ∷ (head s ++ (parts fs ++ (41 ∷ [])))

  -- a blank stands before each part
  pub parts : Forms → List ℕ
  parts nil = []
  parts (cons t fs) = 32 ∷ (written t ++ parts fs)

-- one form a line
abbrev pub lines : Forms → List ℕ
lines nil = []
lines (cons t fs) = written t ++ (10 ∷ lines fs)

-- the text of a module: its own form without the items, then the items
abbrev pub printed : Form → List ℕ
printed (form s items) = 40 ∷ (head s ++ (41 ∷ 10 ∷ lines items))
