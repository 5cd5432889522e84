-- What the records of a table say.
use Rattle.std.specs.Prelude.{ℕ, ◌+◌, ◌<◌, ◌≤◌, Bool, true, ◌&&◌, List, [], ◌∷◌, take, drop, nat_le, slice_index_or}
use Rattle.comments.specs.Notes.{Note, a_note}
use Rattle.comments.specs.declared.records.Record.{Record}
use Rattle.comments.specs.declared.types.Side.TheVariants.{Leading}

-- the note that a record stands for
abbrev pub read : List ℕ → Record → Note
read text r = a_note r.side r.position (take r.size (drop r.start text))

abbrev pub blank : Record
blank = record { side = Leading; position = 0; start = 0; size = 0 }

abbrev pub position_of : Record → ℕ
position_of r = r.position

-- each record's text lies among the bytes in use
abbrev pub Within : ℕ → ℕ → List Record → Type 0
Within count used records = (k : ℕ) (d : Record) → k < count → (slice_index_or records k d).start + (slice_index_or records k d).size ≤ used

abbrev pub sizes : List Record → ℕ
sizes [] = 0
sizes (r ∷ rs) = r.size + sizes rs

-- no number of the list is below p
abbrev pub at_least : ℕ → List ℕ → Bool
at_least p [] = true
at_least p (x ∷ xs) = nat_le p x && at_least p xs

abbrev pub ascending : List ℕ → Bool
ascending [] = true
ascending (x ∷ xs) = at_least x xs && ascending xs
