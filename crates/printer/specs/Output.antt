-- What writing on leaves in an output.
use Rattle.std.specs.Prelude.{◌≡◌, ℕ, ◌+◌, ◌-◌, ◌*◌, ◌^◌, ◌<◌, ◌≤◌, max, List, ◌++◌, length, drop}
use Rattle.tables.specs.declared.node.Node.{Node}
use Rattle.walk.specs.Trees.{Tree, flat}
use Rattle.grammar.specs.Forms.{written}
use Rattle.printer.specs.Held.{held}
use Rattle.printer.specs.Writes.{Adds}
use Rattle.printer.specs.declared.pieces.Output.{Output}

pub record Writes (t : List ℕ) (o o' : Output) : Type 0 where
  pub adds : o.n < 2 ^ 64 → Adds t o.out.now o.n o'.out.now o'.n
  -- the buffer is that of one and the same loan: whoever lent it finds there what is written
  pub memory : o'.out.ghost_name ≡ o.out.ghost_name

-- the nodes from `at` to before `end` are printed
pub record WritesForm (nodes : List Node) (text : List ℕ) (at end : ℕ) (o o' : Output) : Type 0 where
  pub fits : o'.n < 2 ^ 64
  pub few : o'.n + 1 ≤ o.n + 131106 * max 1 (end - at)
  pub whole : (t : Tree) (rest : List Node) → drop at nodes ≡ flat t ++ rest → end ≡ at + length (flat t) → Adds (written (held text t)) o.out.now o.n o'.out.now o'.n
  pub memory : o'.out.ghost_name ≡ o.out.ghost_name
