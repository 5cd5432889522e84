use Rattle.std.proofs.Common.{[], ◌∷◌, decimal, arith, rules}
use Rattle.std.proofs.lemmas.Fmt.{length-decimal-le}
use Rattle.printer.proofs.Adding.{writes_behind, writes_then}
use Rattle.printer.proofs.pieces.Output.number.Goals as goal

pub returns : goal.returns
returns c =
    let few = length-decimal-le 10 c.args.n (omega arith) (omega arith) (omega arith) in
    writes_then (32 ∷ []) (decimal c.args.n) c.bytes.ensures (writes_behind (decimal c.args.n) c.put.ensures.behind c.put.ensures.memory (omega (arith, few)) (search rules) (search rules))
