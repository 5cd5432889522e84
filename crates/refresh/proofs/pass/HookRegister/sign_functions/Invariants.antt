use Rattle.refresh.specs.Appended.{Extends}
use Rattle.refresh.proofs.pass.HookRegister.sign_functions.Given as goal

abbrev pub invariant-loop-at : goal.invariant-loop-at
invariant-loop-at l = Extends l.initial.text l.text
