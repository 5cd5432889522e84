-- The reader's state as the code holds it, and what a call did to it.
use Rattle.std.specs.Prelude.{◌≡◌, ℕ, List, reverse, Some, None, Ok, Err, Option, Result}
use Rattle.tables.specs.Lists.{contents, room}
use Rattle.tables.specs.declared.fault.Fault.{Fault}
use Rattle.tables.specs.declared.node.Node.{Node}
use Rattle.reader.specs.declared.loader.Loader.{Loader}
use Rattle.reader.specs.declared.mode.Mode.{Mode}
use Rattle.reader.specs.Machine.{State, Step, go, done, stop, to, Outcome, accepted, refused}

abbrev pub view : Loader → List Node → List ℕ → State
view l nodes text = record { mode = l.mode; node = l.node; stack = reverse (contents l.frames); nodes = nodes; text = text; count = l.count; bytes = l.bytes }

-- a call that answers what the reader wants next, or that the text is over
abbrev pub wants : Result (Option Mode) Fault → State → Step
wants (Ok (Some m)) s = go (to s m)
wants (Ok None) s = done s
wants (Err f) s = stop f

-- a call that reads to the end
abbrev pub came : Result (Unit {0}) Fault → State → Outcome
came (Ok x) s = accepted s
came (Err f) s = refused f

-- what stays from token to token
pub record Same (l l' : Loader) : Type 0 where
  pub room : room l'.frames ≡ room l.frames
  pub limit : l'.limit ≡ l.limit

-- the same but for the bytes counted
pub record Held (l l' : Loader) : Type 0 where
  pub mode : l'.mode ≡ l.mode
  pub node : l'.node ≡ l.node
  pub frames : contents l'.frames ≡ contents l.frames
  pub count : l'.count ≡ l.count
  pub same : Same l l'
