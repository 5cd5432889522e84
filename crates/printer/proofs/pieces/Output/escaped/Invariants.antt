use Rattle.std.proofs.Common.{drop}
use Rattle.grammar.specs.Forms.{escaped}
use Rattle.printer.specs.Output.{Writes}
use Rattle.printer.specs.declared.pieces.Output.{Output}
use Rattle.printer.proofs.pieces.Output.escaped.Given as goal

-- what is left to write gives the whole
abbrev pub invariant-loop-b : goal.invariant-loop-b
invariant-loop-b l = (o : Output) → Writes (escaped (drop l.b-index l.text)) l.self o → Writes (escaped l.text) l.initial.self o
