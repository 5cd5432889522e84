use Rattle.std.proofs.Common.{◌++◌, drop, ap, ◌∙◌}
use Rattle.lex.proofs.Overs.{over_part}
use Rattle.lex.proofs.put.put_bytes.Goals as goal

pub returns-clause-holds : goal.returns-clause-holds
returns-clause-holds c =
    let o = c.args.out.now in
    let k = c.min-n.result in
    ap (λ s. s ++ drop k o) c.copy_from_slice.ensures.after ∙ over_part o c.args.bytes.now k c.min-n.ensures
