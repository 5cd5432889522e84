-- A name is among others exactly if a search through them finds it.
use Rattle.std.proofs.Common.{◌≡◌, ℕ, ◌||◌, List, [], ◌∷◌, refl, ap₂, arith}
use Rattle.std.proofs.lemmas.Bool.Decides.{nat_tests}
use Rattle.std.specs.List.{list_any}
use Rattle.std.specs.Str.{bytes_eq}
use Rattle.names.specs.Names.{among}

bytes_eq_comm : (xs ys : List ℕ) → bytes_eq xs ys ≡ bytes_eq ys xs
bytes_eq_comm [] [] = refl
bytes_eq_comm [] (y ∷ ys) = refl
bytes_eq_comm (x ∷ xs) [] = refl
bytes_eq_comm (x ∷ xs) (y ∷ ys) = grind (arith, nat_tests, bytes_eq_comm xs ys)

pub any-among : (n : List ℕ) (xs : List (List ℕ)) → list_any (λ x. bytes_eq x n) xs ≡ among n xs
any-among n [] = refl
any-among n (x ∷ xs) = ap₂ (λ a b. a || b) (bytes_eq_comm x n) (any-among n xs)
