use Rattle.std.proofs.Common.{◌≡◌, ℕ, ◌+◌, ◌-◌, ◌≤◌, List, ◌++◌, length, drop}
use Rattle.tables.specs.declared.node.Node.{Node}
use Rattle.tables.specs.Lists.{contents, room}
use Rattle.walk.specs.Shown.{Went}
use Rattle.walk.specs.Trees.{Forest, flats}
use Rattle.walk.proofs.Rounds.{Left}
use Rattle.walk.proofs.visit.walk.Given as goal

-- the visitor was changed by calls alone, and what is left to show completes what was shown
abbrev pub invariant-loop-at : goal.invariant-loop-at
invariant-loop-at g l =
    (room l.open ≡ room l.initial.open) × Went g.V.Visitor.entering g.V.Visitor.leaving l.nodes l.initial.visitor l.visitor × ((size : ℕ) → size ≡ room l.initial.open → (f : Forest) (rest : List Node) → drop l.from l.nodes ≡ flats f ++ rest → l.end ≡ l.from + length (flats f) → l.end ≤ 65536 → Left g.V.Visitor.entering g.V.Visitor.leaving l.nodes size l.end f l.from l.initial.visitor l.visitor l.at (contents l.open))

abbrev pub decreases-loop-at : goal.decreases-loop-at
decreases-loop-at g l = l.end - l.at
