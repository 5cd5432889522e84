-- How a visitor answers a call.
use Rattle.std.specs.Prelude.{ℕ, List, Option, Result}
use Rattle.tables.specs.declared.fault.Fault.{Fault}
use Rattle.tables.specs.declared.node.Node.{Node}
use Rattle.walk.specs.declared.visit.Step.{Step}

-- the state before, the table, the node entered, the node right above it, the answer, the state after
abbrev pub Enters : Type 0 → Type 1
Enters S = S → List Node → (at : ℕ) → (above : Option ℕ) → Result Step Fault → S → Type 0

-- the state before, the table, the node left, the answer, the state after
abbrev pub Leaves : Type 0 → Type 1
Leaves S = S → List Node → (at : ℕ) → Result (Unit {0}) Fault → S → Type 0
