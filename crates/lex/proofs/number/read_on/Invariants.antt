use Rattle.std.proofs.Common.{◌≡◌, ◌≤◌, drop}
use Rattle.lex.specs.Numbers.{read_on}
use Rattle.lex.proofs.number.read_on.Given as goal

abbrev pub invariant-loop-b : goal.invariant-loop-b
invariant-loop-b l = (l.n ≤ l.limit) × (read_on l.limit l.n (drop l.b-index l.run) ≡ read_on l.limit 0 l.run)
