use Rattle.std.proofs.Common.{rules}
use Rattle.tables.proofs.Bounded.{pushed}
use Rattle.tables.proofs.list.List.push.Goals as goal

pub returns-clause-holds : goal.returns-clause-holds
returns-clause-holds g c = search (rules, pushed)
