-- Trees of nodes, and the table that a row of them stands in.
use Rattle.std.specs.Prelude.{ℕ, suc, List, [], ◌∷◌, ◌++◌, length}
use Rattle.tables.specs.declared.kind.Kind.{Kind}
use Rattle.tables.specs.declared.kind.Word.{Word}
use Rattle.tables.specs.declared.node.Node.{Node}
use Rattle.tables.specs.declared.node.Place.{Place}
use Rattle.tables.specs.declared.node.Span.{Span}

-- what a node says, but for the size of its tree
pub record Label : Type 0 where
  pub kind : Kind
  pub word : Word
  pub scope : ℕ
  pub number : ℕ
  pub text : Place
  pub span : Span

mutual
  pub data Tree : Type 0 where
    node : Label → Forest → Tree

  pub data Forest : Type 0 where
    nil : Forest
    cons : Tree → Forest → Forest

-- a node before the table of what is below it: it stores how many nodes that makes
abbrev pub over : Label → List Node → List Node
over l below = record { kind = l.kind; word = l.word; scope = l.scope; number = l.number; text = l.text; size = suc (length below); span = l.span } ∷ below

abbrev mutual
  pub flat : Tree → List Node
  flat (node l c) = over l (flats c)

  pub flats : Forest → List Node
  flats nil = []
  flats (cons t f) = flat t ++ flats f
