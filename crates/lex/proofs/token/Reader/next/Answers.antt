use Rattle.std.proofs.Common.{◌≡◌, sym, ap, ◌∙◌, arith}
use Rattle.std.proofs.lemmas.List.{take_rest}
use Rattle.lex.specs.Tokens.{first, size, view, viewed, token_at}
use Rattle.lex.proofs.First.{size_at}
use Rattle.lex.proofs.token.Reader.next.Goals as goal
use Rattle.lex.proofs.token.Reader.next.Goals.{After-size}

-- what was found is the token at the place
seen : (c : After-size) → view c.in_ok-token.token ≡ token_at c.args.self.now.text.now c.args.self.now.at
seen c = sym (ap viewed c.in_ok-token.ensures.ok_part) ∙ c.token_of.ensures ∙ ap first (take_rest c.args.self.now.text.now c.args.self.now.at)

pub invariant_of-self : goal.invariant_of-self
invariant_of-self c = record { inside = omega (arith, c.size.ensures, ap size (seen c), size_at c.args.self.now.text.now c.args.self.now.at c.args.self.now.inside) }
