use Rattle.refresh.specs.Appended.{Extends}
use Rattle.refresh.proofs.signature.Loaded.append_signature.Given as goal

abbrev pub invariant-loop-i : goal.invariant-loop-i
invariant-loop-i l = Extends l.initial.text l.text
