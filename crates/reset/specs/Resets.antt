-- When a comment forces a reset.
use Rattle.std.specs.Prelude.{◌≡◌, ℕ, ◌-◌, ◌<◌, ◌≤◌, Bool, false, not, ◌&&◌, ◌||◌, List, [], ◌∷◌, length, None, codes, Result, MatchResult, ◌==◌}
use Rattle.comments.specs.Notes.{Note, told}
use Rattle.comments.specs.declared.types.Side.TheVariants.{Leading, Trailing}
use Rattle.tables.specs.declared.fault.Fault.{Fault}
use Rattle.tables.specs.declared.fault.Fault.TheVariants.{TooLarge}
use Rattle.tables.specs.declared.node.Node.{Node}
use Rattle.tables.specs.declared.node.Span.{Span}
use Rattle.walk.specs.declared.visit.Step.TheVariants.{Into}
use Rattle.walk.specs.Logs.{mosts}
use Rattle.walk.specs.Trees.{Forest, flats}

abbrev pub needle : List ℕ
needle = codes "@refresh reset"

-- a leading note at hi − 1 or lo, or a trailing one at lo or hi, asks for a reset; a dummy span asks nothing
abbrev pub asked : List Note → Span → Bool
asked ns s = not (s.hi == 0) && (told ns Leading (s.hi - 1) needle || (told ns Leading s.lo needle || (told ns Trailing s.lo needle || told ns Trailing s.hi needle)))

abbrev pub any : {X : Type 0} → (X → Bool) → List X → Bool
any p [] = false
any p (x ∷ xs) = p x || any p xs

-- some node asks
abbrev pub forced : List Note → List Node → Bool
forced ns nodes = any (λ n. asked ns n.span) nodes

-- whether a reset is forced, in any table of trees; the only refusal is that more nodes are open at once than the stack has room for
abbrev pub Forced : List Note → List Node → (room : ℕ) → Result Bool Fault → Type 0
Forced ns nodes room r = (f : Forest) → nodes ≡ flats f → length nodes ≤ 65536 → MatchResult r (λ b. b ≡ forced ns nodes) (λ e. (e ≡ TooLarge) × (room < mosts (λ _ _. Into) f 0 None))
