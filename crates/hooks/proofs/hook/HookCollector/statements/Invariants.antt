use Prim.Native.Nat.{◌-◌}
use Rattle.hooks.proofs.hook.HookCollector.statements.Given as goal

abbrev pub decreases-loop-at : goal.decreases-loop-at
decreases-loop-at l = l.end - l.at
