use Rattle.refresh.specs.Appended.{Extends}
use Rattle.refresh.proofs.signature.Loaded.append_hook.Given as goal

abbrev pub invariant-loop-piece : goal.invariant-loop-piece
invariant-loop-piece l = Extends l.initial.text l.text
