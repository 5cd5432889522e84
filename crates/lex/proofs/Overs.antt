-- Texts written over the front of a buffer, one after another.
use Rattle.std.proofs.Common.{◌≡◌, ℕ, ◌+◌, ◌-◌, ◌<◌, ◌≤◌, min, List, [], ◌∷◌, ◌++◌, length, take, drop, set, sym, refl, ap, ◌∙◌, ap₂, ⊎_elim, append_assoc, arith}
use lib.Seq.{take-append-add}
use borrow.Rule.Slice.PartMut.{put_mid}
use Rattle.std.proofs.lemmas.List.{append-nil, length-append, length-drop, length-take-le, take_all, take-append-le, take_at, drop_at, drop_all, drop-drop, set_split, take_rest}
use Rattle.std.proofs.lemmas.Bool.{cases_lt}
use Rattle.lex.specs.Written.{over}

pub over-fits : (o t : List ℕ) → length t ≤ length o → over o t ≡ t ++ drop (length t) o
unfolding over
over-fits o t h = take_all (length o) (t ++ drop (length t) o) (omega (arith, length-append t (drop (length t) o), length-drop (length t) o))

pub over_cut : (o t : List ℕ) → length o ≤ length t → over o t ≡ take (length o) t
unfolding over
over_cut o t h = take-append-le (length o) t (drop (length t) o) h

pub length_over : (o t : List ℕ) → length (over o t) ≡ length o
length_over o t = ⊎_elim
    (λ h. ap length (over_cut o t (omega arith)) ∙ length-take-le (length o) t (omega arith))
    (λ h. ap length (over-fits o t h) ∙ omega (arith, length-append t (drop (length t) o), length-drop (length t) o))
    (cases_lt (length o) (length t))

pub over_byte : (o : List ℕ) (b : ℕ) → 0 < length o → set o 0 b ≡ over o (b ∷ [])
over_byte o b h = set_split o 0 b h ∙ sym (over-fits o (b ∷ []) h)

pub over_none : (o t : List ℕ) → length o ≡ 0 → o ≡ over o t
unfolding over
over_none [] t h = refl
over_none (x ∷ xs) t h = absurd (omega arith)

-- what fits of a text, and the rest of the buffer
pub over_part : (o t : List ℕ) (k : ℕ) → k ≡ min (length t) (length o) → take k t ++ drop k o ≡ over o t
over_part o t k e = ⊎_elim
    (λ h. let s : k ≡ length o = omega arith in ap (λ m. take m t ++ drop m o) s ∙ ap (λ x. take (length o) t ++ x) (drop_all (length o) o (omega arith)) ∙ append-nil (take (length o) t) ∙ sym (over_cut o t (omega arith)))
    (λ h. let s : k ≡ length t = omega arith in ap (λ m. take m t ++ drop m o) s ∙ ap (λ x. x ++ drop (length t) o) (take_all (length t) t (omega arith)) ∙ sym (over-fits o t h))
    (cases_lt (length o) (length t))

fitting : (o s t : List ℕ) → length s ≤ length o → over o (s ++ t) ≡ s ++ over (drop (length s) o) t
unfolding over
fitting o s t h =
    let r : List ℕ = drop (length s) o in
    let n : length o ≡ length s + length r = omega (arith, length-drop (length s) o) in
    let d : drop (length (s ++ t)) o ≡ drop (length t) r = ap (λ j. drop j o) (length-append s t) ∙ sym (drop-drop (length t) (length s) o) in
    ap₂ (λ j x. take j ((s ++ t) ++ x)) n d ∙ ap (take (length s + length r)) (append_assoc s t (drop (length t) r)) ∙ take-append-add s (t ++ drop (length t) r) (length r)

-- a text after a text, into the rest of the buffer
pub over-over : (o s t : List ℕ) (k : ℕ) → k ≡ min (length s) (length o) → take k (over o s) ++ over (drop k (over o s)) t ≡ over o (s ++ t)
over-over o s t k e = ⊎_elim
    (λ h.
    let m : k ≡ length o = omega arith in
    let first : over o s ≡ take (length o) s = over_cut o s (omega arith) in
    let long : length (over o s) ≡ length o = length_over o s in
    let front : take k (over o s) ≡ take (length o) s = take_all k (over o s) (omega arith) ∙ first in
    let back : drop k (over o s) ≡ [] = drop_all k (over o s) (omega arith) in
    ap₂ (λ x y. x ++ over y t) front back ∙ ap (λ x. take (length o) s ++ x) (sym (over_none [] t refl)) ∙ append-nil (take (length o) s)
    ∙ sym (over_cut o (s ++ t) (omega (arith, length-append s t)) ∙ take-append-le (length o) s t (omega arith)))
    (λ h.
    let r : List ℕ = drop (length s) o in
    let m : k ≡ length s = omega arith in
    let first : over o s ≡ s ++ r = over-fits o s h in
    let front : take k (over o s) ≡ s = ap (take k) first ∙ take_at s r k (sym m) in
    let back : drop k (over o s) ≡ r = ap (drop k) first ∙ drop_at s r k (sym m) in
    ap₂ (λ x y. x ++ over y t) front back ∙ sym (fitting o s t h))
    (cases_lt (length o) (length s))

-- the same as the checker sees it: after s the text t was written into `&mut out[from..]`
pub over_rest : (o o' s t w : List ℕ) (from : ℕ) → o' ≡ over o s → from ≡ min (length s) (length o') → w ≡ over (take (length o' - from) (drop from o')) t → put_mid from (length o' - from) o' w ≡ over o (s ++ t)
over_rest o o' s t w from e f h =
    let long : length o' ≡ length o = ap length e ∙ length_over o s in
    let rest : take (length o' - from) (drop from o') ≡ drop from o' = take_rest o' from in
    let gone : drop (length o' - from) (drop from o') ≡ [] = drop_all (length o' - from) (drop from o') (omega (arith, length-drop from o')) in
    ap₂ (λ x y. take from o' ++ (x ++ y)) (h ∙ ap (λ x. over x t) rest) gone ∙ ap (λ x. take from o' ++ x) (append-nil (over (drop from o') t))
    ∙ ap (λ x. take from x ++ over (drop from x) t) e ∙ over-over o s t from (omega arith)
