-- What printing leaves in the buffer.
use Rattle.std.specs.Prelude.{ℕ, List, Result}
use Rattle.tables.specs.declared.fault.Fault.{Fault}
use Rattle.printer.specs.Printing.{Kept}

-- bytes within the buffer, or a refusal with the bytes needed, more than the buffer has, and the buffer unaltered
abbrev pub Printed : List ℕ → Result ℕ Fault → List ℕ → Type 0
Printed = Kept
