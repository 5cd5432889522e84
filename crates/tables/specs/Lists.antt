-- What a bounded list holds.
use Rattle.std.specs.Prelude.{◌≡◌, ℕ, ◌+◌, ◌-◌, Bool, cond, ◌&&◌, List, length, take, Ok, Err, Option, Result, nat_lt, nat_le}
use Rattle.std.specs.List.{slice_get}
use Rattle.tables.specs.declared.list.List.{List as Bounded}
use Rattle.tables.specs.declared.list.Full.{Full}

-- the elements, first to last
abbrev pub contents : {X : Type 0} → Bounded X → List X
contents l = take l.len l.items.now

-- all that its memory holds
abbrev pub memory : {X : Type 0} → Bounded X → List X
memory l = l.items.now

-- how many elements it has room for
abbrev pub room : {X : Type 0} → Bounded X → ℕ
room l = length l.items.now

-- whether it takes one element more
abbrev pub takes : {X : Type 0} → Bounded X → Bool
takes l = nat_lt (length (contents l)) (room l)

-- whether it takes as many more
abbrev pub takes_more : {X : Type 0} → Bounded X → ℕ → Bool
takes_more l n = nat_le (length (contents l) + n) (room l)

-- whether it holds as many from a place on, and takes them once more
abbrev pub repeats : {X : Type 0} → Bounded X → ℕ → ℕ → Bool
repeats l from n = nat_le (from + n) (length (contents l)) && takes_more l n

-- what is answered where it is taken or not
abbrev pub answer_to : Bool → Result (Unit {0}) Full
answer_to b = cond b (Ok tt) (Err (record {}))

-- what a push answers
abbrev pub answer : {X : Type 0} → Bounded X → Result (Unit {0}) Full
answer l = answer_to (takes l)

-- the last element of a list
abbrev pub last : {X : Type 0} → List X → Option X
last xs = slice_get xs (length xs - 1)

-- two lists over the memory of one and the same loan: whoever lent it finds there what the later list has written
abbrev pub SameMemory : {X : Type 0} → Bounded X → Bounded X → Type 0
SameMemory l l' = l'.items.ghost_name ≡ l.items.ghost_name
