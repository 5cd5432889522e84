use Rattle.std.proofs.Common.{arith}
use lib.Seq.{take-set-lt}
use Rattle.tables.proofs.Bounded.{held_below}
use Rattle.tables.proofs.list.List.put.Goals as goal

pub returns-then-i-len-clause-holds : goal.returns-then-i-len-clause-holds
returns-then-i-len-clause-holds g c =
    let n = c.args.self.now.len in
    let xs = c.args.self.now.items.now in
    take-set-lt n xs c.args.i c.args.x (omega (arith, c.len.ensures, c.if-i-len.true, held_below n xs))
