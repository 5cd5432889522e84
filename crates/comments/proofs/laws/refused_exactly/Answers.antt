use Rattle.comments.proofs.Offered.{refused_exactly, note_limit, byte_limit}
use Rattle.comments.proofs.laws.refused_exactly.Goals as goal

pub returns : goal.returns
returns c = record { refused = refused_exactly; notes = note_limit; bytes = byte_limit }
