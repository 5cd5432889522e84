-- What number a run of bytes writes: base ten, no leading zeros, within a limit.
use Rattle.std.specs.Prelude.{ℕ, ◌+◌, ◌-◌, ◌*◌, Bool, cond, not, ◌&&◌, List, [], ◌∷◌, length, Some, None, Option, ◌==◌, nat_le, nat_lt, slice_index}
use Rattle.tables.specs.Text.{digit}

abbrev pub read_on : ℕ → ℕ → List ℕ → Option ℕ
read_on limit n [] = Some n
read_on limit n (c ∷ cs) = cond (digit c) (cond (nat_le (n * 10 + (c - 48)) limit) (read_on limit (n * 10 + (c - 48)) cs) None) None

-- some digit, and no zero before others
abbrev pub plain : List ℕ → Bool
plain bs = not (length bs == 0) && not (nat_lt 1 (length bs) && slice_index bs 0 == 48)

abbrev pub number_of : ℕ → List ℕ → Option ℕ
number_of limit bs = cond (plain bs) (read_on limit 0 bs) None
