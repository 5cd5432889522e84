use Rattle.std.proofs.Common.{sym, arith}
use Rattle.std.proofs.lemmas.Bool.{ltb-true, ltb-false}
use Rattle.lex.proofs.Overs.{over_byte, over_none}
use Rattle.lex.proofs.put.put_byte.Goals as goal

pub returns-in-Some-clause-holds : goal.returns-in-Some-clause-holds
returns-in-Some-clause-holds c = let e = c.in-Some.ensures.item in over_byte c.args.out.now c.args.b (omega (arith, ltb-true 0 _ (sym e.0)))

pub returns-in_default-clause-holds : goal.returns-in_default-clause-holds
returns-in_default-clause-holds c = let e = c.in_default.ensures.item in over_none c.args.out.now _ (omega (arith, ltb-false 0 _ (sym e.0)))
