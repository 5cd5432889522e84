use Rattle.printer.proofs.Readable.{injective}
use Rattle.printer.proofs.laws.printed_alike_is_alike.Goals as goal

pub returns : goal.returns
returns c = injective
