-- A list laid at a place of another.
use Rattle.std.proofs.Common.{◌≡◌, ℕ, ◌+◌, ◌<◌, ◌≤◌, min, List, [], ◌∷◌, ◌++◌, length, get_or, take, drop, set, sym, refl, ap, ◌∙◌, ap₂, add-one, arith}
use Rattle.std.proofs.lemmas.List.{append_assoc, length-append, length-drop, length-take-le, take-append-drop, take_at, drop_at, drop-drop, set_split, set_at, get_or_at}
use Rattle.lex.specs.Written.{over}
use Rattle.lex.proofs.Overs.{over-fits}
use Rattle.reader.specs.Machine.{kept_at}

unfoldable pub laid : {X : Type 0} → List X → ℕ → List X → List X
laid o i xs = take i o ++ (xs ++ drop (i + length xs) o)

pub laid_none : {X : Type 0} (o : List X) (i : ℕ) → o ≡ laid o i []
unfolding laid
laid_none o i =
    let e : i ≡ i + 0 = omega arith in
    sym (take-append-drop i o) ∙ ap (λ j. take i o ++ drop j o) e

pub laid_one : {X : Type 0} (o : List X) (i : ℕ) (x : X) → i < length o → set o i x ≡ laid o i (x ∷ [])
unfolding laid
laid_one o i x h = set_split o i x h ∙ ap (λ k. take i o ++ (x ∷ drop k o)) (sym (add-one i))

pub length-laid : {X : Type 0} (o : List X) (i : ℕ) (xs : List X) → i + length xs ≤ length o → length (laid o i xs) ≡ length o
unfolding laid
length-laid o i xs h = simp (length-append, length-drop) (omega (arith, length-take-le i o (omega arith)))

-- one list behind another
pub laid-laid : {X : Type 0} (o : List X) (i : ℕ) (xs ys : List X) → i + length xs ≤ length o → laid (laid o i xs) (i + length xs) ys ≡ laid o i (xs ++ ys)
unfolding laid
laid-laid {X} o i xs ys h =
    let front : length (take i o ++ xs) ≡ i + length xs = simp length-append (omega (arith, length-take-le i o (omega arith))) in
    let rest : List X = drop (i + length xs) o in
    let flat : take i o ++ (xs ++ rest) ≡ (take i o ++ xs) ++ rest = sym (append_assoc (take i o) xs rest) in
    let fore : take (i + length xs) (take i o ++ (xs ++ rest)) ≡ take i o ++ xs = ap (take (i + length xs)) flat ∙ take_at (take i o ++ xs) rest (i + length xs) front in
    let back : drop (i + length xs + length ys) (take i o ++ (xs ++ rest)) ≡ drop (i + length (xs ++ ys)) o =
    ap (drop (i + length xs + length ys)) flat ∙ sym (drop-drop (length ys) (i + length xs) ((take i o ++ xs) ++ rest)) ∙ ap (drop (length ys)) (drop_at (take i o ++ xs) rest (i + length xs) front)
    ∙ drop-drop (length ys) (i + length xs) o ∙ ap (λ j. drop j o) (simp length-append (omega arith)) in
    ap₂ (λ a b. a ++ (ys ++ b)) fore back ∙ append_assoc (take i o) xs (ys ++ drop (i + length (xs ++ ys)) o) ∙ ap (λ a. take i o ++ a) (sym (append_assoc xs ys (drop (i + length (xs ++ ys)) o)))

-- the first element, read and set anew
pub laid_at : {X : Type 0} (o : List X) (i : ℕ) (x : X) (xs : List X) (d : X) → i ≤ length o → get_or (laid o i (x ∷ xs)) i d ≡ x
unfolding laid
laid_at o i x xs d h = get_or_at (take i o) x (xs ++ drop (i + length (x ∷ xs)) o) d i (length-take-le i o h)

pub laid-set : {X : Type 0} (o : List X) (i : ℕ) (x y : X) (xs : List X) → i ≤ length o → set (laid o i (x ∷ xs)) i y ≡ laid o i (y ∷ xs)
unfolding laid
laid-set o i x y xs h = set_at (take i o) x (xs ++ drop (i + length (x ∷ xs)) o) y i (length-take-le i o h)

-- at the front
pub laid_front : {X : Type 0} (o xs : List X) → laid o 0 xs ≡ xs ++ drop (0 + length xs) o
unfolding laid
laid_front o xs = refl

pub take-laid : {X : Type 0} (o xs : List X) (n : ℕ) → length xs ≡ n → take n (laid o 0 xs) ≡ xs
take-laid o xs n h = ap (take n) (laid_front o xs) ∙ take_at xs (drop (0 + length xs) o) n h

-- a name that fits is kept whole
pub laid_kept : (o : List ℕ) (i : ℕ) (xs : List ℕ) → i + length xs ≤ length o → kept_at o i xs ≡ laid o i xs
unfolding laid
laid_kept o i xs h =
    let m : min i (length o) ≡ i = omega arith in
    let f : length xs ≤ length (drop i o) = omega (arith, length-drop i o) in
    ap (λ j. take j o ++ over (drop j o) xs) m ∙ ap (λ a. take i o ++ a) (over-fits (drop i o) xs f ∙ ap (λ a. xs ++ a) (drop-drop (length xs) i o))
