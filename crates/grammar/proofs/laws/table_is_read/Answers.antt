use Rattle.grammar.proofs.Sound.{sound}
use Rattle.grammar.proofs.Complete.{complete}
use Rattle.grammar.proofs.laws.table_is_read.Goals as goal

pub returns : goal.returns
returns c = (sound, complete)
