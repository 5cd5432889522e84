-- The notes that a store holds, order aside: a list in ascending order, so that two stores that hold the same notes have equal values.
use Rattle.std.specs.Prelude.{ℕ, ◌+◌, Bool, true, false, cond, ◌&&◌, ◌||◌, List, [], ◌∷◌, length, Ok, Err, Result, ◌==◌, nat_le, nat_lt}
use Rattle.comments.specs.declared.types.Full.{Full}
use Rattle.comments.specs.declared.types.NoSide.{NoSide}
use Rattle.comments.specs.declared.types.Side.{Side}
use Rattle.comments.specs.declared.types.Side.TheVariants.{Leading, Trailing}

pub record Note : Type 0 where
  pub side : Side
  pub position : ℕ
  pub text : List ℕ

abbrev pub a_note : Side → ℕ → List ℕ → Note
a_note s p t = record { side = s; position = p; text = t }

-- the number of a side
abbrev pub number : Side → ℕ
number Leading = 0
number Trailing = 1

-- the side that a number names
abbrev pub side_numbered : ℕ → Result Side NoSide
side_numbered n = cond (n == 0) (Ok Leading) (cond (n == 1) (Ok Trailing) (Err (record {})))

-- the order of notes: by side, then position, then text
abbrev pub upto : List ℕ → List ℕ → Bool
upto [] ys = true
upto (x ∷ xs) [] = false
upto (x ∷ xs) (y ∷ ys) = nat_lt x y || (x == y && upto xs ys)

abbrev pub keys : Note → List ℕ
keys n = number n.side ∷ n.position ∷ n.text

unfoldable pub before : Note → Note → Bool
before a b = upto (keys a) (keys b)

-- one note more
abbrev pub insert : Note → List Note → List Note
insert a [] = a ∷ []
insert a (y ∷ ys) = cond (before a y) (a ∷ y ∷ ys) (y ∷ insert a ys)

-- the notes of a list in any order
abbrev pub ordered : List Note → List Note
ordered [] = []
ordered (x ∷ xs) = insert x (ordered xs)

-- how many bytes of text stand
abbrev pub bytes : List Note → ℕ
bytes [] = 0
bytes (x ∷ xs) = length x.text + bytes xs

-- a text begins with a needle, and has it somewhere
abbrev pub begins : List ℕ → List ℕ → Bool
begins ts [] = true
begins [] (n ∷ ns) = false
begins (t ∷ ts) (n ∷ ns) = t == n && begins ts ns

abbrev pub has : List ℕ → List ℕ → Bool
has [] needle = begins [] needle
has (t ∷ ts) needle = begins (t ∷ ts) needle || has ts needle

-- a note is of the side and position, and has the needle
abbrev pub answers : Side → ℕ → List ℕ → Note → Bool
answers s p needle n = number n.side == number s && (n.position == p && has n.text needle)

-- some note answers
abbrev pub told : List Note → Side → ℕ → List ℕ → Bool
told [] s p needle = false
told (n ∷ ns) s p needle = answers s p needle n || told ns s p needle

-- one note more, with a text of this size, may stand
abbrev pub room : List Note → ℕ → Bool
room ns size = nat_lt (length ns) 512 && nat_le (bytes ns + size) 16384

abbrev pub fits : List Note → Note → Bool
fits ns n = room ns (length n.text)

-- what is held after a note was offered, and what is answered
abbrev pub noted : List Note → Note → List Note
noted ns n = cond (fits ns n) (insert n ns) ns

abbrev pub noted_answer : List Note → Note → Result ℕ Full
noted_answer ns n = cond (fits ns n) (Ok (length ns + 1)) (Err (record {}))
