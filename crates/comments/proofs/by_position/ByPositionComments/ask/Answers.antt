use Rattle.std.proofs.Common.{rules}
use Rattle.comments.proofs.Ascending.{told_before}
use Rattle.comments.proofs.Asking.{told_none, told_at}
use Rattle.comments.proofs.by_position.ByPositionComments.ask.Goals as goal

pub returns-after-notes : goal.returns-after-notes
returns-after-notes c = search (rules, told_none)

pub returns-then-note-position : goal.returns-then-note-position
returns-then-note-position c = search (rules, told_before)

pub returns-then-answers : goal.returns-then-answers
returns-then-answers c = search (rules, told_at)
