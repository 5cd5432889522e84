use Rattle.std.proofs.Common.{rules}
use Rattle.comments.proofs.Asking.{told_none, told_at}
use Rattle.comments.proofs.arrival.ArrivalComments.ask.Goals as goal

pub returns-after-notes : goal.returns-after-notes
returns-after-notes c = search (rules, told_none)

pub returns-then-answers : goal.returns-then-answers
returns-then-answers c = search (rules, told_at)
