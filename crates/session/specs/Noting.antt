-- Noting a comment beside a module whose source has some bytes.
use Rattle.std.specs.Prelude.{ℕ, ◌+◌, Bool, cond, ◌&&◌, List, Ok, Err, Result, ◌==◌, nat_le}
use Rattle.tables.specs.declared.fault.Fault.{Fault}
use Rattle.tables.specs.declared.fault.Fault.TheVariants.{BadPosition, TooManyNotes}
use Rattle.comments.specs.Notes.{Note, a_note, noted, noted_answer}
use Rattle.comments.specs.declared.types.Full.{Full}
use Rattle.comments.specs.declared.types.Side.{Side}
use Rattle.comments.specs.declared.types.Side.TheVariants.{Leading, Trailing}

-- a position lies from 1 to one past the source's length
abbrev pub within_source : ℕ → ℕ → Bool
within_source source position = nat_le 1 position && nat_le position (source + 1)

-- a side is 0 or 1, and a position within the source
abbrev pub placed : ℕ → ℕ → ℕ → Bool
placed source side position = nat_le side 1 && within_source source position

-- the side that 0 or 1 stands for
abbrev pub side_of : ℕ → Side
side_of n = cond (n == 0) Leading Trailing

abbrev pub the_note : ℕ → ℕ → List ℕ → Note
the_note side position text = a_note (side_of side) position text

-- a store's answer as a session gives it
abbrev pub as_answer : Result ℕ Full → Result ℕ Fault
as_answer (Ok held) = Ok held
as_answer (Err f) = Err TooManyNotes

-- the notes held, or why not
abbrev pub note_answer : ℕ → List Note → ℕ → ℕ → List ℕ → Result ℕ Fault
note_answer source ns side position text = cond (placed source side position) (as_answer (noted_answer ns (the_note side position text))) (Err (BadPosition position))

abbrev pub notes_after : ℕ → List Note → ℕ → ℕ → List ℕ → List Note
notes_after source ns side position text = cond (placed source side position) (noted ns (the_note side position text)) ns
