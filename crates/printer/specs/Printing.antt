-- What printing answers, and what it leaves in the buffer.
use Rattle.std.specs.Prelude.{◌≡◌, ℕ, ◌+◌, ◌-◌, ◌*◌, ◌<◌, ◌≤◌, max, cond, List, ◌++◌, length, drop, Ok, Err, Result, nat_le}
use Rattle.tables.specs.Faults.{number, place}
use Rattle.tables.specs.declared.fault.Fault.{Fault}
use Rattle.tables.specs.declared.fault.Fault.TheVariants.{ShortBuffer}
use Rattle.tables.specs.declared.node.Node.{Node}
use Rattle.walk.specs.Trees.{Tree, flat}
use Rattle.grammar.specs.Forms.{written}
use Rattle.printer.specs.Held.{held}
use Rattle.printer.specs.Writes.{Puts}

-- the answer where the text is p: its length, or the bytes needed
abbrev pub answer : List ℕ → List ℕ → Result ℕ Fault
answer p out = cond (nat_le (length p) (length out)) (Ok (length p)) (Err (ShortBuffer (length p)))

-- the text and then the later bytes as they were; a buffer that is too short stays as it is
abbrev pub after : List ℕ → List ℕ → List ℕ
after p out = cond (nat_le (length p) (length out)) (p ++ drop (length p) out) out

-- whatever the table holds: bytes within the buffer, which stays as long, or a refusal with more bytes than it has, and it is unaltered
abbrev pub Kept : List ℕ → Result ℕ Fault → List ℕ → Type 0
Kept out (Ok n) out' = (n ≤ length out) × (length out' ≡ length out)
Kept out (Err f) out' = (number f ≡ 9) × (length out < place f) × (out' ≡ out)

-- the nodes from `at` to before `end` are printed
pub record PutsForm (nodes : List Node) (text : List ℕ) (at end : ℕ) (out out' : List ℕ) (r : ℕ) : Type 0 where
  -- a form says at most 131,104 bytes before its parts
  pub few : r + 1 ≤ 131106 * max 1 (end - at)
  pub whole : (t : Tree) (rest : List Node) → drop at nodes ≡ flat t ++ rest → end ≡ at + length (flat t) → Puts (written (held text t)) out out' r
