-- The module that a table stands for.
use Rattle.std.specs.Prelude.{ℕ, List}
use Rattle.tables.specs.Modules.{bytes_at}
use Rattle.tables.specs.declared.node.Node.{Node}
use Rattle.walk.specs.Trees as trees
use Rattle.walk.specs.Trees.{Label, Tree, node, Forest}
use Rattle.grammar.specs.Forms.{Says, Form, form, Forms, nil, cons}

-- what a node says, with its name
abbrev pub saying : Node → List ℕ → Says
saying n name = record { kind = n.kind; word = n.word; scope = n.scope; number = n.number; name = name; span = n.span }

-- the name is read from the text table
abbrev pub said : List ℕ → Label → Says
said text l = record { kind = l.kind; word = l.word; scope = l.scope; number = l.number; name = bytes_at text l.text; span = l.span }

abbrev mutual
  pub held : List ℕ → Tree → Form
  held text (node l c) = form (said text l) (helds text c)

  pub helds : List ℕ → Forest → Forms
  helds text trees.nil = nil
  helds text (trees.cons t f) = cons (held text t) (helds text f)
