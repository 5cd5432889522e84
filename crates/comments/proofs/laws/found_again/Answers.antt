use Rattle.comments.proofs.Offered.{found_by_its_text, stays_found}
use Rattle.comments.proofs.laws.found_again.Goals as goal

pub returns : goal.returns
returns c = record { itself = found_by_its_text; stays = stays_found }
