use Rattle.std.proofs.Common.{arith, rules}
use Rattle.printer.proofs.Adding.{writes_behind}
use Rattle.printer.proofs.pieces.Output.bytes.Goals as goal

pub returns : goal.returns
returns c = writes_behind c.args.bytes.now c.put.ensures.behind c.put.ensures.memory (omega arith) (search rules) (search rules)
