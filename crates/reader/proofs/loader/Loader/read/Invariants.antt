use Rattle.std.proofs.Common.{◌≡◌, length}
use Rattle.tables.specs.Lists.{room}
use Rattle.lex.specs.Texts.{tokens}
use Rattle.reader.specs.Machine.{goes}
use Rattle.reader.specs.Steps.{view, Same}
use Rattle.reader.proofs.Going.{left}
use Rattle.reader.proofs.loader.Loader.read.Given as goal

-- what is left of the text gives what all of it gives
abbrev pub invariant-loop-place : goal.invariant-loop-place
invariant-loop-place l =
    record {
      text : l.reader.text.now ≡ l.form;
      same : Same l.initial.self l.self;
      gives : goes (room l.initial.self.frames) l.initial.self.limit (view l.self l.nodes l.text) (left l.form l.reader) ≡ goes (room l.initial.self.frames) l.initial.self.limit (view l.initial.self l.initial.nodes l.initial.text) (tokens 0 l.form);
    }

abbrev pub decreases-loop-place : goal.decreases-loop-place
decreases-loop-place l = length (left l.form l.reader)
