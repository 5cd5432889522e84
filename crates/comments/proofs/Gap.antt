-- A row among others, from the place on which they were moved on by one.
use Rattle.std.proofs.Common.{◌≡◌, suc, ◌+◌, ◌-◌, ◌<◌, ◌≤◌, ℕ, List, ◌∷◌, ◌++◌, length, take, drop, set, sym, ap, ◌∙◌, ap₂, arith}
use lib.Seq.{take-set-lt}
use Rattle.std.specs.List.{insert, copy_within}
use Rattle.std.proofs.lemmas.List.{length-take-le, length-drop, length-append, take-take, take-append-le, drop_at, drop-take, set_split}
use Rattle.std.proofs.lemmas.List.Edits.{take-paste}

pub gap_filled : {X : Type 0} (xs : List X) (count at : ℕ) (r : X) → at ≤ count → count < length xs → take (count + 1) (set (copy_within xs at count (at + 1)) at r) ≡ insert (take count xs) at r
gap_filled xs count at r le lt =
    let ys = copy_within xs at count (at + 1) in
    let front = take (at + 1) xs in
    let back = take (count - at) (drop at xs) in
    let len : length (take (at + 1) xs) ≡ at + 1 = length-take-le (at + 1) xs (omega arith) in
    let left : count - at ≤ length (drop at xs) = omega (arith, length-drop at xs) in
    let size : at + 1 + (count - at) ≡ count + 1 = omega arith in
    let whole : at + (count - at) ≡ count = omega arith in
    let moved : take (count + 1) ys ≡ front ++ back = ap (λ k. take k ys) (sym size) ∙ take-paste xs (at + 1) (drop at xs) (count - at) (omega arith) left in
    let inside : at < length (front ++ back) = omega (arith, length-append front back, len) in
    let low : take at (front ++ back) ≡ take at (take count xs) = take-append-le at front back (omega arith) ∙ take-take at (at + 1) xs (omega arith) ∙ sym (take-take at count xs le) in
    let high : drop (suc at) (front ++ back) ≡ drop at (take count xs) = drop_at front back (suc at) (omega arith) ∙ sym (drop-take at (count - at) xs) ∙ ap (λ k. drop at (take k xs)) whole in
    take-set-lt (count + 1) ys at r (omega arith) ∙ ap (λ l. set l at r) moved ∙ set_split (front ++ back) at r inside ∙ ap₂ (λ a b. a ++ r ∷ b) low high
