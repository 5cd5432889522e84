-- What the walk does at one node, told by the numbers of the open nodes, the last one at the end.
use Rattle.std.specs.Prelude.{◌≡◌, ℕ, ◌+◌, ◌<◌, ◌≤◌, min, List, [], ◌∷◌, ◌++◌, length, Some, None, Ok, Err, Option, Result}
use Rattle.tables.specs.declared.fault.Fault.{Fault}
use Rattle.tables.specs.declared.fault.Fault.TheVariants.{TooLarge}
use Rattle.tables.specs.declared.node.Node.{Node}
use Rattle.walk.specs.declared.visit.Step.{Step}
use Rattle.walk.specs.declared.visit.Step.TheVariants.{Into, Past}
use Rattle.walk.specs.Calls.{Enters, Leaves}
use Rattle.tables.specs.Modules.{next_at}

-- the open nodes that end at or before `at` are left, from the last one on; the answer is the one that is still open
pub data Closed {S : Type 0} (leaves : Leaves S) (nodes : List Node) (at : ℕ) : List ℕ → S → Result (Option ℕ) Fault → List ℕ → S → Type 0 where
  empty : {held : List ℕ} {s : S} → held ≡ [] → Closed leaves nodes at held s (Ok None) held s
  stays : {held : List ℕ} {s : S} (under : List ℕ) (top : ℕ) → held ≡ under ++ top ∷ [] → at < next_at nodes top → Closed leaves nodes at held s (Ok (Some top)) held s
  refused : {held : List ℕ} {s s' : S} {e : Fault} (under : List ℕ) (top : ℕ) → held ≡ under ++ top ∷ [] → next_at nodes top ≤ at → leaves s nodes top (Err e) s' → Closed leaves nodes at held s (Err e) under s'
  goes : {held held' : List ℕ} {s s₁ s' : S} {a : Result (Option ℕ) Fault} (under : List ℕ) (top : ℕ) → held ≡ under ++ top ∷ [] → next_at nodes top ≤ at → leaves s nodes top (Ok tt) s₁ → Closed leaves nodes at under s₁ a held' s' → Closed leaves nodes at held s a held' s'

-- where the walk goes on from a node
abbrev pub onward : List Node → ℕ → Step → ℕ
onward nodes at Into = at + 1
onward nodes at Past = next_at nodes at

-- the node `at` is entered; the answer is where the walk goes on
pub data Entered {S : Type 0} (enters : Enters S) (nodes : List Node) (room at : ℕ) (above : Option ℕ) (held : List ℕ) (s : S) : Result ℕ Fault → List ℕ → S → Type 0 where
  refused : {s' : S} {e : Fault} → enters s nodes at above (Err e) s' → Entered enters nodes room at above held s (Err e) held s'
  past : {s' : S} → enters s nodes at above (Ok Past) s' → Entered enters nodes room at above held s (Ok (next_at nodes at)) held s'
  large : {s' : S} → enters s nodes at above (Ok Into) s' → room ≤ length held → Entered enters nodes room at above held s (Err TooLarge) held s'
  into : {s' : S} → enters s nodes at above (Ok Into) s' → length held < room → Entered enters nodes room at above held s (Ok (at + 1)) (held ++ min at 65535 ∷ []) s'
