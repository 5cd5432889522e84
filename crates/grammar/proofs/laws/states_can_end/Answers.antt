use Rattle.grammar.proofs.Endings.{goes_on_lem, completable, items_apart}
use Rattle.grammar.proofs.laws.states_can_end.Goals as goal

pub returns : goal.returns
returns c = record { follows = goes_on_lem; ends = completable; apart = items_apart }
