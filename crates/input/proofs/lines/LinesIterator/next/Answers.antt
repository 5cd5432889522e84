use Rattle.std.proofs.Common.{refl, arith}
use Rattle.input.proofs.Cuts.{lines-next}
use Rattle.input.proofs.lines.LinesIterator.next.Goals as goal

pub returns-clause-steps : goal.returns-clause-steps
returns-clause-steps c =
    rw c.unwrap_or.ensures
    (lines-next c.args.self.now.rest _ c.split_once.result refl (grind arith) c.split_once.ensures)
