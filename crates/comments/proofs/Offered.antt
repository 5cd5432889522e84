-- Notes offered one after another.
use Rattle.std.proofs.Common.{◌≡◌, ℕ, ◌+◌, ◌<◌, ◌≤◌, Bool, true, false, cond, ◌&&◌, eqb, List, [], ◌∷◌, length, Ok, Err, Result, sym, refl, ap, ◌∙◌, subst, ap₂, arith}
use mathlib.Core.List.Permᴰ
use mathlib.Core.List.{Permᴰ}
use Rattle.std.proofs.lemmas.Bool.Decides.{nat_tests}
use Rattle.std.proofs.lemmas.Bool.{cond-true, and_from, or_left, or_right, eq-eqb}
use Rattle.comments.specs.declared.types.Full.{Full}
use Rattle.comments.specs.declared.types.Side.{Side}
use Rattle.comments.specs.Notes.{Note, number, before, insert, ordered, bytes, has, fits, noted, noted_answer, told, answers}
use Rattle.comments.specs.Laws.{Permutation, after, AllFit, EqualExactly, AddsOne, OrderAside, AnsweredAlike, Taken, Refused, RefusedExactly, NoteLimit, ByteLimit, FoundByItsText, StaysFound}
use Rattle.comments.proofs.Order.{insert_comm, length-insert, bytes-insert, length-ordered, bytes-ordered, told-insert}
use Rattle.comments.proofs.Standing.{has_itself}

-- ---- room
module _ (held : List Note) (n : Note) where
  taken : length held < 512 → bytes held + length n.text ≤ 16384 → Taken held n
  taken a b = (grind (arith, nat_tests), grind (arith, nat_tests))

  many : 512 ≤ length held → Refused held n
  many a = (grind (arith, nat_tests), grind (arith, nat_tests))

  long : 16384 < bytes held + length n.text → Refused held n
  long a = (grind (arith, nat_tests), grind (arith, nat_tests))

pub refused_exactly : RefusedExactly
refused_exactly held n = ((λ a b. taken held n (omega arith) b), (λ a. many held n (omega arith)), (λ a. long held n a))

pub note_limit : NoteLimit
note_limit held n = ((λ a b. let t = taken held n (omega arith) b in (t.0 ∙ ap (λ k. Ok (k + 1)) a, t.1)), (λ a. many held n (omega arith)))

pub byte_limit : ByteLimit
byte_limit held n few = ((λ a. taken held n few (omega arith)), (λ a. long held n (omega arith)))

-- ---- order aside
pub adds_one : AddsOne
adds_one n [] = Permᴰ.refl (n ∷ [])
adds_one n (y ∷ ys) = go (adds_one n ys) (before n y)
  where
    go : Permutation (insert n ys) (n ∷ ys) → (b : Bool) → Permutation (cond b (n ∷ y ∷ ys) (y ∷ insert n ys)) (n ∷ y ∷ ys)
    go ih true = Permᴰ.refl (n ∷ y ∷ ys)
    go ih false = Permᴰ.trans (Permᴰ.cons refl ih) (Permᴰ.swap refl refl)

ordered-perm : {xs ys : List Note} → Permᴰ xs ys → ordered xs ≡ ordered ys
ordered-perm Permᴰ.nil = refl
ordered-perm (Permᴰ.cons e p) = ap₂ insert e (ordered-perm p)
ordered-perm (Permᴰ.swap {a = a} {b = b} {l = l} e d) = insert_comm a b (ordered l) ∙ ap₂ (λ x y. insert x (insert y (ordered l))) d e
ordered-perm (Permᴰ.trans p q) = ordered-perm p ∙ ordered-perm q

perm-ordered : (xs : List Note) → Permutation xs (ordered xs)
perm-ordered [] = Permᴰ.nil
perm-ordered (x ∷ xs) = Permᴰ.trans (Permᴰ.cons refl (perm-ordered xs)) (Permᴰ.symm (adds_one x (ordered xs)))

pub equal_exactly : EqualExactly
equal_exactly xs ys =
    (ordered-perm, λ e. Permᴰ.trans (perm-ordered xs) (subst (λ l. Permutation l ys) (sym e) (Permᴰ.symm (perm-ordered ys))))

abbrev added : List Note → List Note → List Note
added held [] = held
added held (n ∷ ns) = added (insert n held) ns

added-perm : (held : List Note) {xs ys : List Note} → Permᴰ xs ys → added held xs ≡ added held ys
added-perm held Permᴰ.nil = refl
added-perm held (Permᴰ.cons {a = a} {b = b} {l₂ = ys} e p) = added-perm (insert a held) p ∙ ap (λ n. added (insert n held) ys) e
added-perm held (Permᴰ.swap {a = a} {b = b} {l = l} e d) = ap (λ h. added h l) (insert_comm b a held ∙ ap₂ (λ x y. insert x (insert y held)) e d)
added-perm held (Permᴰ.trans p q) = added-perm held p ∙ added-perm held q

all_taken : (held xs : List Note) → AllFit held xs → after held xs ≡ added held xs
all_taken held [] r = refl
all_taken held (x ∷ xs) r =
    let e : noted held x ≡ insert x held = (taken held x (omega (arith, r.0)) (omega (arith, r.1))).1 in
    ap (λ h. after h xs) e ∙ all_taken (insert x held) xs (omega (arith, r.0, length-insert x held), omega (arith, r.1, bytes-insert x held))

length-perm : (xs ys : List Note) → Permᴰ xs ys → length xs ≡ length ys
length-perm xs ys p = sym (length-ordered xs) ∙ ap length (ordered-perm p) ∙ length-ordered ys

bytes_perm : (xs ys : List Note) → Permᴰ xs ys → bytes xs ≡ bytes ys
bytes_perm xs ys p = sym (bytes-ordered xs) ∙ ap bytes (ordered-perm p) ∙ bytes-ordered ys

pub order_aside : OrderAside
order_aside held xs ys p r =
    all_taken held xs r ∙ added-perm held p ∙ sym (all_taken held ys (omega (arith, r.0, length-perm xs ys p), omega (arith, r.1, bytes_perm xs ys p)))

pub answered_alike : AnsweredAlike
answered_alike held xs ys p r s q nd = ap (λ l. told l s q nd) (order_aside held xs ys p r)

-- ---- found again
noted_keeps : (held : List Note) (n : Note) (s : Side) (p : ℕ) (nd : List ℕ) → told held s p nd ≡ true → told (noted held n) s p nd ≡ true
noted_keeps held n s p nd e = go (fits held n)
  where
    go : (b : Bool) → told (cond b (insert n held) held) s p nd ≡ true
    go true = told-insert s p nd n held ∙ or_right (answers s p nd n) (told held s p nd) e
    go false = e

pub stays_found : StaysFound
stays_found held [] s p nd e = e
stays_found held (n ∷ ns) s p nd e = stays_found (noted held n) ns s p nd (noted_keeps held n s p nd e)

ok_fits : (held : List Note) (n : Note) (count : ℕ) → noted_answer held n ≡ Ok count → fits held n ≡ true
ok_fits held n count e = go (fits held n) e
  where
    go : (b : Bool) → cond {A = Result ℕ Full} b (Ok (length held + 1)) (Err (record {})) ≡ Ok count → b ≡ true
    go true e = refl
    go false e = let z : ◌≡◌ {A = ℕ} 0 1 = cc in absurd (omega arith)

answers_itself : (n : Note) → answers n.side n.position n.text n ≡ true
answers_itself n =
    and_from (eqb (number n.side) (number n.side)) (eqb n.position n.position && has n.text n.text)
    (eq-eqb (number n.side) (number n.side) refl)
    (and_from (eqb n.position n.position) (has n.text n.text) (eq-eqb n.position n.position refl) (has_itself n.text))

pub found_by_its_text : FoundByItsText
found_by_its_text held n count more e =
    let s = n.side in
    let p = n.position in
    let nd = n.text in
    let here : told (noted held n) n.side n.position n.text ≡ true =
    ap (λ l. told l s p nd) (cond-true (fits held n) (insert n held) held (ok_fits held n count e)) ∙ told-insert s p nd n held ∙ or_left (answers s p nd n) (told held s p nd) (answers_itself n) in
    stays_found (noted held n) more s p nd here
