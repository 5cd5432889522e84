-- The nodes of a table that stand side by side.
use Rattle.std.specs.Prelude.{◌≡◌, ℕ, ◌+◌, ◌-◌, ◌^◌, min, Bool, cond, nat_lt, List, Option, Some, None}
use Rattle.tables.specs.declared.node.Node.{Node}
use Rattle.tables.specs.declared.siblings.Siblings.{Siblings}
use Rattle.tables.specs.Modules.{next_at}

-- what is left to show are the nodes from one place to before another
pub record Between (nodes : List Node) (from end : ℕ) (s : Siblings) : Type 0 where
  pub table : s.nodes.now ≡ nodes
  pub first : s.at ≡ from
  pub last : s.end ≡ end

-- whether there is one more
abbrev pub more : Siblings → Bool
more s = nat_lt s.at s.end

-- the place of the first is shown, and past all that is below it the others are left; where there is none, nothing changes
pub record Shows (s : Siblings) (r : Option ℕ) (t : Siblings) : Type 0 where
  pub shown : r ≡ cond (more s) (Some s.at) None
  pub left : Between s.nodes.now (cond (more s) (next_at s.nodes.now s.at) s.at) s.end t

-- where the parts of the node at a place begin: right behind it
abbrev pub first_part : ℕ → ℕ
first_part at = min (at + 1) (2 ^ 64 - 1)
