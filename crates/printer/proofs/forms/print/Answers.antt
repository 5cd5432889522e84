use Rattle.grammar.specs.Forms.{printed}
use Rattle.printer.specs.Held.{held}
use Rattle.printer.proofs.Answered.{fits_after}
use Rattle.printer.proofs.forms.print.Goals as goal

pub returns-clause-after : goal.returns-clause-after
returns-clause-after c =
    λ t e. fits_after (printed (held c.args.m.now.text.now t)) c.args.out.now c.put_module-needed.result (c.put_module-needed.ensures t e).0 c.if-needed-out.false c.put_module.new.out (c.put_module.ensures t e).1
