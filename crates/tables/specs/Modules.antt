-- Reading a module in its tables.
use Rattle.std.specs.Prelude.{ℕ, ◌+◌, ◌-◌, ◌^◌, min, max, Bool, cond, not, ◌&&◌, List, [], length, take, drop, ◌==◌, nat_le, slice_index_or}
use Rattle.std.specs.Str.{bytes_eq}
use Rattle.tables.specs.declared.node.Node.{Node}
use Rattle.tables.specs.declared.node.Place.{Place}
use Rattle.tables.specs.declared.node.Span.{Span}
use Rattle.tables.specs.declared.kind.Kind.{Kind}
use Rattle.tables.specs.declared.kind.Kind.TheVariants.{Module as ModuleKind}
use Rattle.tables.specs.declared.kind.Word.TheVariants.{Bare}

-- the node that a table has past its end
abbrev pub void : Node
void = record { kind = ModuleKind; word = Bare; scope = 0; number = 0; text = record { at = 0; len = 0 }; size = 0; span = record { lo = 0; hi = 0 } }

-- a node of which only the kind is known, and nothing below it
abbrev pub made : Kind → Node
made k = record { kind = k; word = Bare; scope = 0; number = 0; text = record { at = 0; len = 0 }; size = 1; span = record { lo = 0; hi = 0 } }

abbrev pub node_at : List Node → ℕ → Node
node_at nodes at = slice_index_or nodes at void

-- the bytes at a place of the text table; a place past its end has none
abbrev pub bytes_at : List ℕ → Place → List ℕ
bytes_at text p = cond (nat_le (p.at + p.len) (length text)) (take p.len (drop p.at text)) []

-- a span that is no dummy and lies within the source
abbrev pub lies : List ℕ → Span → Bool
lies source s = not (s.lo == 0) && (nat_le s.lo s.hi && nat_le s.hi (length source + 1))

-- the bytes from lo to before hi; the dummy has none
abbrev pub snippet : List ℕ → Span → List ℕ
snippet source s = cond (lies source s) (take (s.hi - s.lo) (drop (s.lo - 1) source)) []

-- identifiers are the same if name and scope are
abbrev pub same_ident : List ℕ → Node → Node → Bool
same_ident text a b = a.scope == b.scope && bytes_eq (bytes_at text a.text) (bytes_at text b.text)

-- where the next node stands that is not below the one at a place
abbrev pub next_at : List Node → ℕ → ℕ
next_at nodes at = min (at + max 1 (node_at nodes at).size) (2 ^ 64 - 1)
