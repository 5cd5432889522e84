-- What does not hang on the order of the notes.
use Rattle.std.proofs.Common.{◌≡◌, ℕ, ◌+◌, Bool, true, false, cond, ◌||◌, List, [], ◌∷◌, ◌++◌, length, sym, refl, ap, ap₂, ◌∙◌, ⊎_elim, arith}
use Rattle.std.proofs.lemmas.Bool.{cases_Bool, true≢false}
use Rattle.std.proofs.lemmas.Bool.Decides.{nat_tests}
use Rattle.comments.specs.declared.types.Side.{Side}
use Rattle.comments.specs.declared.types.Side.TheVariants.{Leading, Trailing}
use Rattle.comments.specs.Notes.{Note, a_note, number, upto, keys, before, insert, ordered, bytes, told, answers}

upto_total : (xs ys : List ℕ) → upto xs ys ≡ false → upto ys xs ≡ true
upto_total [] ys e = absurd (true≢false e)
upto_total (x ∷ xs) [] e = refl
upto_total (x ∷ xs) (y ∷ ys) e =
    let ih : upto xs ys ≡ false → upto ys xs ≡ true = upto_total xs ys in
    grind (arith, nat_tests, ih)

upto_both : (xs ys : List ℕ) → upto xs ys ≡ true → upto ys xs ≡ true → xs ≡ ys
upto_both [] [] e d = refl
upto_both [] (y ∷ ys) e d = absurd (true≢false (sym d))
upto_both (x ∷ xs) [] e d = absurd (true≢false (sym e))
upto_both (x ∷ xs) (y ∷ ys) e d =
    let ih : upto xs ys ≡ true → upto ys xs ≡ true → xs ≡ ys = upto_both xs ys in
    grind (arith, nat_tests, ih)

upto_trans : (xs ys zs : List ℕ) → upto xs ys ≡ true → upto ys zs ≡ true → upto xs zs ≡ true
upto_trans [] ys zs e d = refl
upto_trans (x ∷ xs) [] zs e d = absurd (true≢false (sym e))
upto_trans (x ∷ xs) (y ∷ ys) [] e d = absurd (true≢false (sym d))
upto_trans (x ∷ xs) (y ∷ ys) (z ∷ zs) e d =
    let ih : upto xs ys ≡ true → upto ys zs ≡ true → upto xs zs ≡ true = upto_trans xs ys zs in
    grind (arith, nat_tests, ih)

before_total : (a b : Note) → before a b ≡ false → before b a ≡ true
unfolding before
before_total a b e = upto_total (keys a) (keys b) e

before_trans : (a b c : Note) → before a b ≡ true → before b c ≡ true → before a c ≡ true
unfolding before
before_trans a b c e d = upto_trans (keys a) (keys b) (keys c) e d

pub same-side : (a b : Side) → number a ≡ number b → a ≡ b
same-side Leading Leading e = refl
same-side Leading Trailing e = absurd (omega (arith, e))
same-side Trailing Leading e = absurd (omega (arith, e))
same-side Trailing Trailing e = refl

before_both : (a b : Note) → before a b ≡ true → before b a ≡ true → a ≡ b
unfolding before
before_both a b e d =
    let same = upto_both (keys a) (keys b) e d in
    let number_same : number a.side ≡ number b.side = cc in
    let position_same : a.position ≡ b.position = cc in
    let text_same : a.text ≡ b.text = cc in
    let side_same = same-side a.side b.side number_same in
    ap (λ s. a_note s a.position a.text) side_same ∙ ap₂ (λ p t. a_note b.side p t) position_same text_same

-- two at the head of a list, in the order that they belong in
two : (a b : Note) (l : List Note) → cond (before a b) (a ∷ b ∷ l) (b ∷ a ∷ l) ≡ cond (before b a) (b ∷ a ∷ l) (a ∷ b ∷ l)
two a b l = go (before a b) (before b a) refl refl
  where
    go : (p q : Bool) → before a b ≡ p → before b a ≡ q → cond p (a ∷ b ∷ l) (b ∷ a ∷ l) ≡ cond q (b ∷ a ∷ l) (a ∷ b ∷ l)
    go true true e d = let s : a ≡ b = before_both a b e d in cc
    go true false e d = refl
    go false true e d = refl
    go false false e d = absurd (true≢false (sym (before_total a b e) ∙ d))

pub insert_comm : (a b : Note) (l : List Note) → insert a (insert b l) ≡ insert b (insert a l)
insert_comm a b [] = two a b []
insert_comm a b (y ∷ ys) = go (insert_comm a b ys) (before a y) (before b y) refl refl
  where
    late : (x z : Note) → before x y ≡ true → before z y ≡ false → before z x ≡ false
    late x z e d = ⊎_elim (λ t. absurd (true≢false (sym (before_trans z x y t e) ∙ d))) (λ f. f) (cases_Bool (before z x))

    go : insert a (insert b ys) ≡ insert b (insert a ys) → (p q : Bool) → before a y ≡ p → before b y ≡ q → insert a (insert b (y ∷ ys)) ≡ insert b (insert a (y ∷ ys))
    go ih true true e d = simp (e, d) (two a b (y ∷ ys))
    go ih true false e d = let f : before b a ≡ false = late a b e d in simp (e, d, f)
    go ih false true e d = let f : before a b ≡ false = late b a d e in simp (e, d, f)
    go ih false false e d = simp (e, d) (ap (λ l. y ∷ l) ih)

pub ordered_mid : (xs ys : List Note) (n : Note) → ordered (xs ++ n ∷ ys) ≡ insert n (ordered (xs ++ ys))
ordered_mid [] ys n = refl
ordered_mid (x ∷ xs) ys n = ap (insert x) (ordered_mid xs ys n) ∙ insert_comm x n (ordered (xs ++ ys))

pub length-insert : (n : Note) (l : List Note) → length (insert n l) ≡ length l + 1
length-insert n [] = refl
length-insert n (y ∷ ys) = go (length-insert n ys) (before n y)
  where
    go : length (insert n ys) ≡ length ys + 1 → (p : Bool) → length (cond p (n ∷ y ∷ ys) (y ∷ insert n ys)) ≡ length (y ∷ ys) + 1
    go ih true = omega arith
    go ih false = omega arith

pub bytes-insert : (n : Note) (l : List Note) → bytes (insert n l) ≡ length n.text + bytes l
bytes-insert n [] = refl
bytes-insert n (y ∷ ys) = go (bytes-insert n ys) (before n y)
  where
    go : bytes (insert n ys) ≡ length n.text + bytes ys → (p : Bool) → bytes (cond p (n ∷ y ∷ ys) (y ∷ insert n ys)) ≡ length n.text + bytes (y ∷ ys)
    go ih true = refl
    go ih false = omega arith

or_swap : (a b c : Bool) → (a || (b || c)) ≡ (b || (a || c))
or_swap true true c = refl
or_swap true false c = refl
or_swap false b c = refl

module _ (s : Side) (p : ℕ) (needle : List ℕ) where
  pub told-insert : (n : Note) (l : List Note) → told (insert n l) s p needle ≡ (answers s p needle n || told l s p needle)
  told-insert n [] = refl
  told-insert n (y ∷ ys) = go (told-insert n ys) (before n y)
    where
      go : told (insert n ys) s p needle ≡ (answers s p needle n || told ys s p needle) → (b : Bool) → told (cond b (n ∷ y ∷ ys) (y ∷ insert n ys)) s p needle ≡ (answers s p needle n || told (y ∷ ys) s p needle)
      go ih true = refl
      go ih false = ap (λ t. answers s p needle y || t) ih ∙ or_swap (answers s p needle y) (answers s p needle n) (told ys s p needle)

  pub told-ordered : (l : List Note) → told (ordered l) s p needle ≡ told l s p needle
  told-ordered [] = refl
  told-ordered (x ∷ xs) = told-insert x (ordered xs) ∙ ap (λ t. answers s p needle x || t) (told-ordered xs)

pub length-ordered : (l : List Note) → length (ordered l) ≡ length l
length-ordered [] = refl
length-ordered (x ∷ xs) = omega (arith, length-insert x (ordered xs), length-ordered xs)

pub bytes-ordered : (l : List Note) → bytes (ordered l) ≡ bytes l
bytes-ordered [] = refl
bytes-ordered (x ∷ xs) = bytes-insert x (ordered xs) ∙ ap (λ k. length x.text + k) (bytes-ordered xs)
