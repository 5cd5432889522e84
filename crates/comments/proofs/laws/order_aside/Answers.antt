use Rattle.comments.proofs.Offered.{equal_exactly, adds_one, order_aside, answered_alike}
use Rattle.comments.proofs.laws.order_aside.Goals as goal

pub returns : goal.returns
returns c = record { equal = equal_exactly; one = adds_one; held = order_aside; alike = answered_alike }
