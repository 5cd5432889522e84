use Rattle.comments.proofs.Standing.{has_is_standing, told_exactly}
use Rattle.comments.proofs.laws.told_exactly.Goals as goal

pub returns : goal.returns
returns c = record { has = has_is_standing; told = told_exactly }
