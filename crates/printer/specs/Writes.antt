-- A text written over the front of a buffer, as far as it fits, or behind what was written so before. Its bytes are counted, up to the largest number.
use Rattle.std.specs.Prelude.{◌≡◌, ℕ, ◌+◌, ◌-◌, ◌^◌, ◌<◌, min, List, ◌++◌, length, take, drop}
use Rattle.std.specs.Borrow.{MutBor}
use Rattle.std.specs.Fn.{Shared}
use Rattle.lex.specs.Written.{over}

pub record Puts (t out out' : List ℕ) (r : ℕ) : Type 0 where
  pub count : r ≡ min (length t) (2 ^ 64 - 1)
  pub holds : out' ≡ over out t

-- `at` bytes were counted before, `r` are then
pub record Adds (t out : List ℕ) (at : ℕ) (out' : List ℕ) (r : ℕ) : Type 0 where
  pub count : r ≡ min (at + length t) (2 ^ 64 - 1)
  pub holds : (o s : List ℕ) → out ≡ over o s → at ≡ min (length s) (2 ^ 64 - 1) → out' ≡ over o (s ++ t)

-- what a call wrote into the rest of the buffer, behind `at` bytes, and how many are then counted
pub record Behind {F : Type 0} (g : Shared F (MutBor (List ℕ) × Unit {0}) (ℕ × (MutBor (List ℕ) × Unit {0}))) (f : F) (out : List ℕ) (at : ℕ) (out' : List ℕ) (n : ℕ) : Type 0 where
  pub small : length out < 2 ^ 64
  pub shown : MutBor (List ℕ)
  pub shows : shown.now ≡ drop (min at (length out)) out
  pub left : MutBor (List ℕ)
  pub result : ℕ
  pub returns : g.post f (shown, tt) (result, (left, tt))
  pub count : n ≡ min (at + result) (2 ^ 64 - 1)
  pub holds : out' ≡ take (min at (length out)) out ++ left.now
