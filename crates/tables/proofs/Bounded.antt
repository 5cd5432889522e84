-- A list whose elements are the first n of the memory xs: what the bounded list's writes do to `take n xs`.
use Rattle.std.proofs.Common.{◌≡◌, ℕ, ◌+◌, ◌-◌, ◌<◌, ◌≤◌, List, [], ◌∷◌, ◌++◌, length, take, drop, set, sym, ap, ◌∙◌, arith}
use Rattle.std.specs.List.{copy_within}
use Rattle.std.proofs.Math.Seq.{paste}
use Rattle.std.proofs.lemmas.List.{length-take, length-drop, take_all, take-take, drop-take, take_more_set}
use Rattle.std.proofs.lemmas.List.Edits.{take-paste}

pub held_below : {X : Type 0} (n : ℕ) (xs : List X) → length (take n xs) ≤ n
held_below n xs = omega (arith, length-take n xs)

-- the elements are also the first of as many as are held
pub take-held : {X : Type 0} (n : ℕ) (xs : List X) → take (length (take n xs)) xs ≡ take n xs
take-held n xs = sym (take-take (length (take n xs)) n xs (held_below n xs)) ∙ take_all (length (take n xs)) (take n xs) (omega arith)

pub pushed : {X : Type 0} (n : ℕ) (xs : List X) (k : ℕ) (x : X) → k ≡ length (take n xs) → k < length xs → take (k + 1) (set xs k x) ≡ take n xs ++ x ∷ []
pushed n xs k x e h = take_more_set xs k x h ∙ ap (λ ys. ys ++ x ∷ []) (ap (λ m. take m xs) e ∙ take-held n xs)

-- elements from a place on, written once more behind those that are held
pub repeated : {X : Type 0} (n : ℕ) (xs : List X) (k from count : ℕ) → k ≡ length (take n xs) → from + count ≤ k → k + count ≤ length xs → take (k + count) (copy_within xs from (from + count) k) ≡ take n xs ++ take count (drop from (take n xs))
repeated n xs k from count e h l =
    let held : take k xs ≡ take n xs = ap (λ m. take m xs) e ∙ take-held n xs in
    let many : from + count - from ≡ count = omega arith in
    let part : take count (drop from xs) ≡ take count (drop from (take n xs)) = sym (take-take count (k - from) (drop from xs) (omega arith)) ∙ (ap (take count) (sym (drop-take from (k - from) xs) ∙ ap (λ m. drop from (take m xs)) (omega arith)) ∙ ap (λ ys. take count (drop from ys)) held) in
    ap (λ m. take (k + count) (paste xs k (drop from xs) m)) many ∙ (take-paste xs k (drop from xs) count (omega arith) (omega (arith, length-drop from xs)) ∙ (ap (λ ys. ys ++ take count (drop from xs)) held ∙ ap (λ ys. take n xs ++ ys) part))
