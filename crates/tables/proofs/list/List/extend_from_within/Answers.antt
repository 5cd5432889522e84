use Rattle.std.proofs.Common.{rules, arith}
use Rattle.std.proofs.lemmas.List.{length-take}
use Rattle.tables.proofs.Bounded.{repeated}
use Rattle.tables.proofs.list.List.extend_from_within.Goals as goal

pub returns-clause-holds : goal.returns-clause-holds
returns-clause-holds g c =
    let p = repeated c.args.self.now.len c.args.self.now.items.now c.len-n.result c.args.from c.args.count c.len-n.ensures (omega arith) (omega (arith, c.len-n.ensures, length-take c.args.self.now.len c.args.self.now.items.now)) in
    rw c.copy_within.ensures.after (search (rules, p))
