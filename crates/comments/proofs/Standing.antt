-- What `has` and `told` mean.
use Rattle.std.proofs.Common.{◌≡◌, ℕ, true, ◌&&◌, eqb, List, [], ◌∷◌, ◌++◌, Decides, sym, refl, ap, ◌∙◌, ap₂, ⊎_elim}
use Rattle.std.proofs.lemmas.List.{append-nil}
use Rattle.std.proofs.lemmas.Bool.{eq-eqb, eqb-true, and_parts, and_from, or_cases, or_left, or_right, true≢false}
use Rattle.std.proofs.lemmas.Bool.Decides.{Decides-by_or, Decides-like, Decides-and, Decides-eqb}
use Rattle.comments.specs.declared.types.Side.{Side}
use Rattle.comments.specs.Notes.{Note, number, begins, has, told, answers}
use Rattle.comments.specs.Laws.{Stands, HasIsStanding, Answering, ToldExactly}
use Rattle.comments.proofs.Order.{same-side}

begins_is : (t nd : List ℕ) → begins t nd ≡ true → (back : List ℕ) × (t ≡ nd ++ back)
begins_is [] [] e = ([], refl)
begins_is (x ∷ t) [] e = (x ∷ t, refl)
begins_is [] (n ∷ nd) e = absurd (true≢false (sym e))
begins_is (x ∷ t) (n ∷ nd) e =
    let p = and_parts (eqb x n) (begins t nd) e in
    let r = begins_is t nd p.1 in
    (r.0, ap₂ (λ a l. a ∷ l) (eqb-true x n p.0) r.1)

is_begins : (nd back : List ℕ) → begins (nd ++ back) nd ≡ true
is_begins [] [] = refl
is_begins [] (b ∷ back) = refl
is_begins (n ∷ nd) back = and_from (eqb n n) (begins (nd ++ back) nd) (eq-eqb n n refl) (is_begins nd back)

has_is : (t nd : List ℕ) → has t nd ≡ true → Stands t nd
has_is [] nd e = let r = begins_is [] nd e in ([], r.0, r.1)
has_is (x ∷ t) nd e =
    ⊎_elim
    (λ b. let r = begins_is (x ∷ t) nd b in ([], r.0, r.1))
    (λ h. let r = has_is t nd h in (x ∷ r.0, r.1, ap (λ l. x ∷ l) r.2))
    (or_cases (begins (x ∷ t) nd) (has t nd) e)

has-begins : (t nd : List ℕ) → begins t nd ≡ true → has t nd ≡ true
has-begins [] nd e = e
has-begins (x ∷ t) nd e = or_left (begins (x ∷ t) nd) (has t nd) e

is_has : (front back nd : List ℕ) → has (front ++ (nd ++ back)) nd ≡ true
is_has [] back nd = has-begins (nd ++ back) nd (is_begins nd back)
is_has (x ∷ front) back nd = or_right (begins (x ∷ (front ++ (nd ++ back))) nd) (has (front ++ (nd ++ back)) nd) (is_has front back nd)

pub has_is_standing : HasIsStanding
has_is_standing t nd = (has_is t nd, λ s. ap (λ l. has l nd) s.2 ∙ is_has s.0 s.1 nd)

pub has_itself : (t : List ℕ) → has t t ≡ true
has_itself t = (has_is_standing t t).1 ([], [], sym (append-nil t))

answering : (s : Side) (p : ℕ) (nd : List ℕ) (n : Note) → Decides (answers s p nd n) (Answering s p nd n)
answering s p nd n =
    Decides-like (answers s p nd n)
    (λ h. record { side_is = same-side n.side s h.0; position_is = h.1.0; stands = h.1.1 })
    (λ a. (ap number a.side_is, (a.position_is, a.stands)))
    (Decides-and (eqb (number n.side) (number s)) (eqb n.position p && has n.text nd) (Decides-eqb (number n.side) (number s))
    (Decides-and (eqb n.position p) (has n.text nd) (Decides-eqb n.position p) (has_is_standing n.text nd)))

pub told_exactly : ToldExactly
told_exactly held s p nd = Decides-by_or (answers s p nd) (Answering s p nd) (λ ns. told ns s p nd) (answering s p nd) refl (λ _ _. refl) held
