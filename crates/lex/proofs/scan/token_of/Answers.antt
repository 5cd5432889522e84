use Rattle.std.proofs.Common.{take, refl, ap, ◌∙◌, arith}
use Rattle.lex.specs.Tokens.{viewed}
use Rattle.tables.specs.Text.{class}
use Rattle.lex.proofs.First.{first_none, first_some, viewed_run, first_run}
use Rattle.lex.proofs.scan.token_of.Goals as goal

pub returns-in_default : goal.returns-in_default
returns-in_default c = first_none c.args.rest.now (omega arith)

pub returns-in-Open : goal.returns-in-Open
returns-in-Open c = first_some c.args.rest.now _ c.in-len1-up.len_at_least (c.in-Open.ensures ∙ ap class c.from.ensures)

pub returns-in-Close : goal.returns-in-Close
returns-in-Close c = first_some c.args.rest.now _ c.in-len1-up.len_at_least (c.in-Close.ensures ∙ ap class c.from.ensures)

pub returns-in-Blank : goal.returns-in-Blank
returns-in-Blank c = first_some c.args.rest.now _ c.in-len1-up.len_at_least (c.in-Blank.ensures ∙ ap class c.from.ensures)

pub returns-in-LineFeed : goal.returns-in-LineFeed
returns-in-LineFeed c = first_some c.args.rest.now _ c.in-len1-up.len_at_least (c.in-LineFeed.ensures ∙ ap class c.from.ensures)

pub returns-in-Letter : goal.returns-in-Letter
returns-in-Letter c =
    ap viewed c.then_some.ensures ∙ viewed_run c.is_lawful.result _ (take c.run_len.result c.args.rest.now) refl
    ∙ first_run c.args.rest.now _ _ _ c.in-len1-up.len_at_least (c.class_of.ensures ∙ ap class c.from.ensures) c.in-Letter.is c.run_len.ensures c.is_lawful.ensures
