-- The number and the place of each refusal.
use Rattle.std.specs.Prelude.{ℕ}
use Rattle.tables.specs.declared.fault.Phase.{Phase}
use Rattle.tables.specs.declared.fault.Phase.TheVariants.{Blank, Loaded, Done}
use Rattle.tables.specs.declared.fault.Fault.{Fault}
use Rattle.tables.specs.declared.fault.Fault.TheVariants.{Unlawful, Misplaced, TooDeep, TooLarge, WrongState, BadPosition, TooManyNotes, BadOption, ShortBuffer}

abbrev pub phase_number : Phase → ℕ
phase_number Blank = 0
phase_number Loaded = 1
phase_number Done = 2

abbrev pub number : Fault → ℕ
number (Unlawful at) = 1
number (Misplaced at) = 2
number (TooDeep at) = 3
number TooLarge = 4
number (WrongState p) = 5
number (BadPosition p) = 6
number TooManyNotes = 7
number BadOption = 8
number (ShortBuffer n) = 9

abbrev pub place : Fault → ℕ
place (Unlawful at) = at
place (Misplaced at) = at
place (TooDeep at) = at
place TooLarge = 0
place (WrongState p) = phase_number p
place (BadPosition p) = p
place TooManyNotes = 0
place BadOption = 0
place (ShortBuffer n) = n
