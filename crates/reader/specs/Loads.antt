-- What the reader answers to a text, and what the tables hold then.
use Rattle.std.specs.Prelude.{◌≡◌, ℕ, ◌+◌, Bool, cond, ◌||◌, List, length, Ok, Err, Result, nat_lt}
use Rattle.tables.specs.Sizes.{sizes_fit}
use Rattle.tables.specs.declared.fault.Fault.{Fault}
use Rattle.tables.specs.declared.node.Node.{Node}
use Rattle.tables.specs.declared.sizes.Sizes.{Sizes}
use Rattle.lex.specs.Texts.{tokens}
use Rattle.reader.specs.Machine.{State, Outcome, accepted, refused, goes, start}

-- what comes of a text over a source, read into tables, with at most 64 open brackets
abbrev pub outcome : (form source : List ℕ) → List Node → List ℕ → Outcome
outcome form source nodes text = goes 64 (length source + 1) (start nodes text) (tokens 0 form)

-- the counts, unless they are past the tables
abbrev pub counted : State → (nodes text : ℕ) → Result Sizes Fault
counted s nodes text = cond (nat_lt nodes s.count || nat_lt text s.bytes) (Err Fault.TooLarge) (Ok (record { nodes = s.count; text = s.bytes }))

-- where the text is refused, what stands in the tables is left open
abbrev pub Answers : Outcome → Result Sizes Fault → List Node → List ℕ → Type 0
Answers (accepted s) r nodes' text' = (r ≡ counted s (length nodes') (length text')) × (nodes' ≡ s.nodes) × (text' ≡ s.text)
Answers (refused f) r nodes' text' = r ≡ Err f

abbrev pub BySize : Bool → (fits : Type 0) → Result Sizes Fault → Type 0
BySize b fits r = cond b fits (r ≡ Err Fault.TooLarge)

-- tables and source of a wrong size are refused before the first token
abbrev pub Read : (form source : List ℕ) → List Node → List ℕ → Result Sizes Fault → List Node → List ℕ → Type 0
Read form source nodes text r nodes' text' = BySize (sizes_fit (length nodes) (length text) (length source)) (Answers (outcome form source nodes text) r nodes' text') r
