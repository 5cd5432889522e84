-- The notes of a table.
use Rattle.std.specs.Prelude.{ℕ, List, map, take}
use Rattle.comments.specs.Notes.{Note, ordered}
use Rattle.comments.specs.Records.{read, position_of}
use Rattle.comments.specs.declared.table.Table.{Table}

-- in the order of the records
abbrev pub recorded : Table → List Note
recorded t = map (read t.bytes) (take t.count t.records)

abbrev pub positions : Table → List ℕ
positions t = map position_of (take t.count t.records)

-- order aside
abbrev pub held : Table → List Note
held t = ordered (recorded t)
