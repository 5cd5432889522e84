-- A list that grows at its end, as a stack whose top comes first.
use Rattle.std.proofs.Common.{◌≡◌, ◌-◌, List, [], ◌∷◌, ◌++◌, reverse, length, take, Some, None, Option, refl, ap, ◌∙◌, subst, arith, length-append}
use Rattle.std.specs.List.{slice_get}
use Rattle.std.proofs.lemmas.List.{reverse-append, reverse-reverse, take_at}

-- the top of a stack, and what is below it
abbrev pub Tops : {X : Type 0} → List X → Option X → List X → Type 0
Tops [] o ys = (o ≡ None) × (ys ≡ [])
Tops (f ∷ st) o ys = (o ≡ Some f) × (ys ≡ st)

nth_end : {X : Type 0} (xs : List X) (x : X) → slice_get (xs ++ x ∷ []) (length xs) ≡ Some x
nth_end [] x = refl
nth_end (y ∷ ys) x = nth_end ys x

below : {X : Type 0} (st : List X) → Tops st (slice_get (reverse st) (length (reverse st) - 1)) (reverse (take (length (reverse st) - 1) (reverse st)))
below [] = (refl, refl)
below (f ∷ st) =
    let e : reverse (f ∷ st) ≡ reverse st ++ f ∷ [] = reverse-append (f ∷ []) st in
    let n : length (reverse (f ∷ st)) - 1 ≡ length (reverse st) = omega (arith, ap length e, length-append (reverse st) (f ∷ [])) in (
      ap (slice_get (reverse (f ∷ st))) n ∙ ap (λ xs. slice_get xs (length (reverse st))) e ∙ nth_end (reverse st) f,
      ap (λ k. reverse (take k (reverse (f ∷ st)))) n ∙ ap (λ xs. reverse (take (length (reverse st)) xs)) e ∙ ap reverse (take_at (reverse st) (f ∷ []) (length (reverse st)) refl) ∙ reverse-reverse st,
    )

pub popped : {X : Type 0} (xs : List X) → Tops (reverse xs) (slice_get xs (length xs - 1)) (reverse (take (length xs - 1) xs))
popped xs = subst (λ ys. Tops (reverse xs) (slice_get ys (length ys - 1)) (reverse (take (length ys - 1) ys))) (reverse-reverse xs) (below (reverse xs))
