-- What holds of every store, in the words of its notes.
use Rattle.std.specs.Prelude.{◌≡◌, ℕ, ◌+◌, ◌<◌, ◌≤◌, true, List, [], ◌∷◌, ◌++◌, length, Ok, Err, Decides, slice_index_or}
use mathlib.Core.List.{Permᴰ}
use Rattle.comments.specs.declared.types.Side.{Side}
use Rattle.comments.specs.Notes.{Note, bytes, insert, ordered, has, told, noted, noted_answer}

-- one list is the other in another order
abbrev pub Permutation : List Note → List Note → Type 0
Permutation xs ys = Permᴰ xs ys

-- what is held after notes were offered one by one
abbrev pub after : List Note → List Note → List Note
after held [] = held
after held (n ∷ ns) = after (noted held n) ns

-- more notes may all stand beside those held
abbrev pub AllFit : List Note → List Note → Type 0
AllFit held more = (length held + length more ≤ 512) × (bytes held + bytes more ≤ 16384)

-- two lists of notes have one value exactly if one is the other in another order
abbrev pub EqualExactly : Type 0
EqualExactly = (xs ys : List Note) → (Permutation xs ys → ordered xs ≡ ordered ys) × (ordered xs ≡ ordered ys → Permutation xs ys)

-- a note more is that note and those held
abbrev pub AddsOne : Type 0
AddsOne = (n : Note) (held : List Note) → Permutation (insert n held) (n ∷ held)

-- the same notes in any order leave the same held, so that every ask is answered alike
abbrev pub OrderAside : Type 0
OrderAside = (held xs ys : List Note) → Permutation xs ys → AllFit held xs → after held xs ≡ after held ys

abbrev pub AnsweredAlike : Type 0
AnsweredAlike = (held xs ys : List Note) → Permutation xs ys → AllFit held xs → (s : Side) (p : ℕ) (needle : List ℕ) → told (after held xs) s p needle ≡ told (after held ys) s p needle

-- the needle stands in the text as consecutive bytes
abbrev pub Stands : List ℕ → List ℕ → Type 0
Stands text needle = (front : List ℕ) × (back : List ℕ) × (text ≡ front ++ (needle ++ back))

abbrev pub HasIsStanding : Type 0
HasIsStanding = (text needle : List ℕ) → Decides (has text needle) (Stands text needle)

-- an ask is told yes exactly if a note of the side and position has the needle
pub record Answering (s : Side) (p : ℕ) (needle : List ℕ) (n : Note) : Type 0 where
  pub side_is : n.side ≡ s
  pub position_is : n.position ≡ p
  pub stands : Stands n.text needle

abbrev pub ToldExactly : Type 0
ToldExactly = (held : List Note) (s : Side) (p : ℕ) (needle : List ℕ) → Decides (told held s p needle) ((k : ℕ) × (k < length held) × ((d : Note) → Answering s p needle (slice_index_or held k d)))

-- a note is taken, or refused with nothing altered
abbrev pub Taken : List Note → Note → Type 0
Taken held n = (noted_answer held n ≡ Ok (length held + 1)) × (noted held n ≡ insert n held)

abbrev pub Refused : List Note → Note → Type 0
Refused held n = (noted_answer held n ≡ Err (record {})) × (noted held n ≡ held)

-- it is refused exactly if more than 512 notes, or more than 16384 bytes of text, would stand
abbrev pub RefusedExactly : Type 0
RefusedExactly =
    (held : List Note) (n : Note) →
    (length held + 1 ≤ 512 → bytes held + length n.text ≤ 16384 → Taken held n)
    × (512 < length held + 1 → Refused held n)
    × (16384 < bytes held + length n.text → Refused held n)

-- note 512 is taken, and 513 refused
abbrev pub NoteLimit : Type 0
NoteLimit =
    (held : List Note) (n : Note) →
    (length held ≡ 511 → bytes held + length n.text ≤ 16384 → (noted_answer held n ≡ Ok 512) × (noted held n ≡ insert n held))
    × (length held ≡ 512 → Refused held n)

-- byte 16384 is taken, and 16385 refused
abbrev pub ByteLimit : Type 0
ByteLimit =
    (held : List Note) (n : Note) → length held < 512 →
    (bytes held + length n.text ≡ 16384 → Taken held n)
    × (bytes held + length n.text ≡ 16385 → Refused held n)

-- a note that was taken is found by its own text, whatever is offered after it
abbrev pub FoundByItsText : Type 0
FoundByItsText =
    (held : List Note) (n : Note) (count : ℕ) (more : List Note) →
    noted_answer held n ≡ Ok count → told (after (noted held n) more) n.side n.position n.text ≡ true

-- what was found is found again, whatever is offered after it
abbrev pub StaysFound : Type 0
StaysFound =
    (held more : List Note) (s : Side) (p : ℕ) (needle : List ℕ) →
    told held s p needle ≡ true → told (after held more) s p needle ≡ true
