-- What a visitor is shown of trees, in which order, and what its answers lead to.
use Rattle.std.specs.Prelude.{◌≡◌, ℕ, suc, ◌+◌, ◌<◌, ◌≤◌, List, ◌++◌, length, drop, Some, None, Ok, Err, Option, Result}
use Rattle.tables.specs.declared.fault.Fault.{Fault}
use Rattle.tables.specs.declared.fault.Fault.TheVariants.{TooLarge}
use Rattle.tables.specs.declared.node.Node.{Node}
use Rattle.walk.specs.declared.visit.Step.{Step}
use Rattle.walk.specs.declared.visit.Step.TheVariants.{Into, Past}
use Rattle.walk.specs.Calls.{Enters, Leaves}
use Rattle.walk.specs.Trees.{Label, Tree, node, Forest, nil, cons, flat, flats}

-- A visitor goes from state to state. `enters s nodes at above a s'`: in the state s, shown the node `at` right below the node `above`, it may
-- answer a and be in s'. `leaves s nodes at a s'`: the same of a node that it leaves. There is room for `room` open nodes.
module _ {S : Type 0} (enters : Enters S) (leaves : Leaves S) (nodes : List Node) (room : ℕ) where
  mutual
    -- a tree whose node is `at`, right below `above`, while `held` nodes are open: the state before, the answer, the state after
    pub data Shown : Tree → (at : ℕ) (above : Option ℕ) (held : ℕ) → S → Result (Unit {0}) Fault → S → Type 0 where
      -- the visitor refuses the node
      refused : {l : Label} {c : Forest} {at held : ℕ} {above : Option ℕ} {s s' : S} {e : Fault} → enters s nodes at above (Err e) s' → Shown (node l c) at above held s (Err e) s'
      -- it goes past what is below
      past : {l : Label} {c : Forest} {at held : ℕ} {above : Option ℕ} {s s' : S} → enters s nodes at above (Ok Past) s' → Shown (node l c) at above held s (Ok tt) s'
      -- it goes into the node, and one more cannot be open
      large : {l : Label} {c : Forest} {at held : ℕ} {above : Option ℕ} {s s' : S} → enters s nodes at above (Ok Into) s' → room ≤ held → Shown (node l c) at above held s (Err TooLarge) s'
      -- a refusal below ends it
      below : {l : Label} {c : Forest} {at held : ℕ} {above : Option ℕ} {s s₁ s' : S} {e : Fault} → enters s nodes at above (Ok Into) s₁ → held < room → Showns c (at + 1) (Some at) (suc held) s₁ (Err e) s' → Shown (node l c) at above held s (Err e) s'
      -- all below is shown, and then it leaves the node
      whole : {l : Label} {c : Forest} {at held : ℕ} {above : Option ℕ} {s s₁ s₂ s' : S} {a : Result (Unit {0}) Fault} → enters s nodes at above (Ok Into) s₁ → held < room → Showns c (at + 1) (Some at) (suc held) s₁ (Ok tt) s₂ → leaves s₂ nodes at a s' → Shown (node l c) at above held s a s'

    -- trees that stand one after the other from `at` on
    pub data Showns : Forest → (at : ℕ) (above : Option ℕ) (held : ℕ) → S → Result (Unit {0}) Fault → S → Type 0 where
      none : {at held : ℕ} {above : Option ℕ} {s : S} → Showns nil at above held s (Ok tt) s
      -- a refusal ends it
      stops : {t : Tree} {f : Forest} {at held : ℕ} {above : Option ℕ} {s s' : S} {e : Fault} → Shown t at above held s (Err e) s' → Showns (cons t f) at above held s (Err e) s'
      goes : {t : Tree} {f : Forest} {at held : ℕ} {above : Option ℕ} {s s₁ s' : S} {a : Result (Unit {0}) Fault} → Shown t at above held s (Ok tt) s₁ → Showns f (at + length (flat t)) above held s₁ a s' → Showns (cons t f) at above held s a s'

  -- where a part of a table holds trees, and the numbers of its nodes fit an entry of the stack, the visitor is shown them
  abbrev pub Walked : (from end : ℕ) → S → Result (Unit {0}) Fault → S → Type 0
  Walked from end s a s' = (f : Forest) (rest : List Node) → drop from nodes ≡ flats f ++ rest → end ≡ from + length (flats f) → end ≤ 65536 → Showns f from None 0 s a s'

-- whatever the table holds, the visitor is called, and nothing else changes it
pub data Went {S : Type 0} (enters : Enters S) (leaves : Leaves S) (nodes : List Node) : S → S → Type 0 where
  still : {s : S} → Went enters leaves nodes s s
  comes : {s s₁ s' : S} {at : ℕ} {above : Option ℕ} {a : Result Step Fault} → Went enters leaves nodes s s₁ → enters s₁ nodes at above a s' → Went enters leaves nodes s s'
  parts : {s s₁ s' : S} {at : ℕ} {a : Result (Unit {0}) Fault} → Went enters leaves nodes s s₁ → leaves s₁ nodes at a s' → Went enters leaves nodes s s'
