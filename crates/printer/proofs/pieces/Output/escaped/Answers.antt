use Rattle.std.proofs.Common.{◌≡◌, ◌+◌, [], ◌++◌, get_or, drop, sym, subst, arith, rules}
use Rattle.std.proofs.lemmas.List.{at_drop_more, at_drop_all}
use Rattle.grammar.specs.Forms.{escape, escaped}
use Rattle.printer.specs.Output.{Writes}
use Rattle.printer.proofs.Adding.{writes_behind, writes_then, writes_none, escape-few}
use Rattle.printer.proofs.pieces.Output.escaped.Goals as goal

pub loop-b-preserved : goal.loop-b-preserved
loop-b-preserved c =
    λ o w.
    let text = c.args.text.now in
    let i = c.loop-b.b-index in
    let b = get_or text i 0 in
    let step : escaped (drop i text) ≡ escape b ++ escaped (drop (i + 1) text) = at_drop_more escaped text i 0 c.loop-b-test.true in
    let one : Writes (escape b) c.loop-b.self c.put.new.self = writes_behind (escape b) c.put.ensures.behind c.put.ensures.memory (omega (arith, escape-few b)) (search rules) (search rules) in
    c.loop-b.invariant o (subst (λ t. Writes t c.loop-b.self o) (sym step) (writes_then (escape b) (escaped (drop (i + 1) text)) one w))

pub returns : goal.returns
returns c =
    let text = c.args.text.now in
    let done : escaped (drop c.loop-b.b-index text) ≡ [] = at_drop_all escaped text c.loop-b.b-index c.loop-b-test.false in
    c.loop-b.invariant c.loop-b.self (subst (λ t. Writes t c.loop-b.self c.loop-b.self) (sym done) (writes_none c.loop-b.self))
