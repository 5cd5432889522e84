use Rattle.std.proofs.Common.{◌≡◌, false}
use Rattle.comments.proofs.Asking.{Unanswered}
use Rattle.comments.proofs.by_position.ByPositionComments.ask.Given as goal

abbrev pub invariant-notes : goal.invariant-notes
invariant-notes l = record {
  unfound : l.found ≡ false;
  unanswered : Unanswered l.self.table l.side l.position l.needle l.note-index;
}
