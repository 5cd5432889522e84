-- What bytes are in a text, and the name rule.
use Rattle.std.specs.Prelude.{ℕ, Bool, false, cond, ◌&&◌, ◌||◌, List, [], ◌∷◌, length, ◌==◌, nat_le}
use Rattle.std.specs.List.{list_all}
use Rattle.tables.specs.declared.text.Class.{Class}
use Rattle.tables.specs.declared.text.Class.TheVariants.{Open, Close, Blank, LineFeed, Letter, Digit, Other}

abbrev pub within : ℕ → ℕ → ℕ → Bool
within lo hi c = nat_le lo c && nat_le c hi

-- A to Z, a to z, `_` and `$`
abbrev pub letter : ℕ → Bool
letter c = within 65 90 c || within 97 122 c || c == 95 || c == 36

-- 0 to 9
abbrev pub digit : ℕ → Bool
digit c = within 48 57 c

abbrev pub class : ℕ → Class
class c = cond (c == 40) Open (cond (c == 41) Close (cond (c == 32) Blank (cond (c == 10) LineFeed (cond (letter c) Letter (cond (digit c) Digit Other)))))

-- a byte that a name may have
abbrev pub in_name : ℕ → Bool
in_name c = letter c || digit c

abbrev pub every : (ℕ → Bool) → List ℕ → Bool
every p cs = list_all p cs

abbrev pub starts_name : List ℕ → Bool
starts_name [] = false
starts_name (c ∷ cs) = letter c

-- a name has 1 to 64 characters, no digit first
abbrev pub name : List ℕ → Bool
name n = starts_name n && (nat_le (length n) 64 && every in_name n)
