use Rattle.comments.proofs.Gap.{gap_filled}
use Rattle.comments.proofs.table_methods.insert_record.Goals as goal

pub returns : goal.returns
returns c = rw c.copy_within.ensures.after (gap_filled c.args.records.now c.args.count c.args.at c.args.added c.requires.at_le_count c.requires.count_in_bounds)
