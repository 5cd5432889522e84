use Rattle.std.proofs.Common.{sym, ◌∙◌}
use Rattle.tables.specs.Lists.{contents}
use Rattle.reader.specs.Steps.{view}
use Rattle.reader.proofs.Tops.{closed_top}
use Rattle.reader.proofs.loader.Loader.close_form.Goals as goal

pub returns-clause-does : goal.returns-clause-does
returns-clause-does c = λ xs. closed_top (view c.args.self.now c.args.nodes.now xs) c.args.place (contents c.args.self.now.frames) (contents c.pop.new.self) c.in_ok-frame.frame c.later.result c.set_size.new.nodes (sym c.pop.ensures.last ∙ c.in_ok-frame.ensures.ok_part) c.pop.ensures.holds c.later.ensures c.set_size.ensures
