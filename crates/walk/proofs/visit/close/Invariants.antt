use Rattle.std.proofs.Common.{◌≡◌, ℕ, List, length, Option, Result}
use Rattle.tables.specs.declared.fault.Fault.{Fault}
use Rattle.tables.specs.Lists.{contents, room}
use Rattle.walk.specs.Turns.{Closed}
use Rattle.walk.proofs.visit.close.Given as goal

-- what is left to do completes what was done
abbrev pub invariant-loop-top : goal.invariant-loop-top
invariant-loop-top g l =
    (room l.open ≡ room l.initial.open) × ((a : Result (Option ℕ) Fault) (held : List ℕ) (s : g.row.V.Denot) → Closed g.V.Visitor.leaving l.nodes l.at (contents l.open) l.visitor a held s → Closed g.V.Visitor.leaving l.nodes l.at (contents l.initial.open) l.initial.visitor a held s)

abbrev pub decreases-loop-top : goal.decreases-loop-top
decreases-loop-top g l = length (contents l.open)
