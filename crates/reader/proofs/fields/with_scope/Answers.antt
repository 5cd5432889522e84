use Rattle.std.proofs.Common.{sym, arith}
use Rattle.lex.proofs.Numbers.{only_decimal}
use Rattle.reader.proofs.fields.with_scope.Goals as goal

-- a number within the limit fits
pub returns-in_err-node : goal.returns-in_err-node
returns-in_err-node c =
    let w = only_decimal 65535 c.in_ok-read_number.field-0 c.args.run.now (omega arith) (sym c.in_ok-read_number.ensures) in
    grind (arith, c.try_from.ensures, c.in_err-node.ensures.variant)
