use Rattle.std.proofs.Common.{cond, reverse, sym, ap, ◌∙◌}
use Rattle.tables.specs.Lists.{contents}
use Rattle.reader.specs.Machine.{called_in}
use Rattle.reader.proofs.Tops.{called_top, called_none}
use Rattle.reader.proofs.loader.Loader.name_function.Goals as goal

pub returns-in-Some : goal.returns-in-Some
returns-in-Some c =
    let xs = contents c.args.self.now.frames in
    let ns = c.args.nodes.now in
    c.set_named.ensures ∙ called_top ns xs c.in-Some.frame (sym c.in-Some.ensures) ∙ ap (λ b. cond b (called_in ns (reverse xs)) ns) c.if-not-may_dash.ensures

pub returns-in_default : goal.returns-in_default
returns-in_default c =
    let xs = contents c.args.self.now.frames in
    let ns = c.args.nodes.now in
    called_none ns xs (sym c.in_default.ensures) ∙ ap (λ b. cond b (called_in ns (reverse xs)) ns) c.if-not-may_dash.ensures
