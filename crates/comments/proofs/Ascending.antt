-- Numbers in ascending order, and what follows for notes in the order of their positions.
use Rattle.std.proofs.Common.{◌≡◌, ℕ, zero, suc, ◌<◌, ◌≤◌, true, false, leb, List, [], ◌∷◌, map, length, get_or, refl, ap, inl, inr, arith}
use Rattle.std.specs.List.{insert}
use Rattle.std.specs.List.Sorted.{IsNonDecreasing, IsNonDecreasingBy, IsPartitionedBy, IsPartitionPoint}
use Rattle.std.proofs.lemmas.List.{length-map, get_or-map, get_or_default}
use Rattle.std.proofs.lemmas.List.Recursion.{and_at, and_from_places}
use Rattle.std.proofs.lemmas.List.Sorted.{IsNonDecreasingBy-insert}
use Rattle.std.proofs.lemmas.Bool.{and_parts, and_from, leb-true, leb-false, le-leb, cases_lt}
use Rattle.comments.specs.declared.types.Side.{Side}
use Rattle.comments.specs.declared.records.Record.{Record}
use Rattle.comments.specs.declared.table.Table.{Table}
use Rattle.comments.specs.Notes.{told}
use Rattle.comments.specs.Records.{read, blank, position_of, at_least, ascending}
use Rattle.comments.specs.Tables.{positions, held}
use Rattle.comments.proofs.Asking.{answers-position, rows, Unanswered, told_none}

rises : (xs : List ℕ) → ascending xs ≡ true → IsNonDecreasing xs
rises [] e i j d le h = absurd (omega arith)
rises (x ∷ xs) e zero zero d le h = omega arith
rises (x ∷ xs) e zero (suc j) d le h = leb-true x (get_or xs j d) (and_at (at_least x) (leb x) refl (λ _ _. refl) xs j d (omega arith) (and_parts (at_least x xs) (ascending xs) e).0)
rises (x ∷ xs) e (suc i) zero d le h = absurd (omega arith)
rises (x ∷ xs) e (suc i) (suc j) d le h = rises xs (and_parts (at_least x xs) (ascending xs) e).1 i j d (omega arith) (omega arith)

rising : (xs : List ℕ) → IsNonDecreasing xs → ascending xs ≡ true
rising [] r = refl
rising (x ∷ xs) r =
    and_from (at_least x xs) (ascending xs)
    (and_from_places (at_least x) (leb x) refl (λ _ _. refl) xs 0 (λ i h. le-leb x (get_or xs i 0) (r 0 (suc i) 0 (omega arith) (omega arith))))
    (rising xs (λ i j d le h. r (suc i) (suc j) d (omega arith) (omega arith)))

module _ (rs : List Record) (order : ascending (map position_of rs) ≡ true) where
  pub by_position : IsNonDecreasingBy position_of rs
  by_position i j d le h =
      let a : get_or (map position_of rs) i 0 ≡ (get_or rs i d).position = get_or-map position_of rs i d 0 (omega arith) in
      let b : get_or (map position_of rs) j 0 ≡ (get_or rs j d).position = get_or-map position_of rs j d 0 h in
      let up = rises (map position_of rs) order i j 0 le (omega (arith, length-map rs position_of)) in
      omega arith

  pub partitioned : (p : ℕ) → IsPartitionedBy (λ r. leb r.position p) rs
  partitioned p i j d le h e =
      let up = by_position i j d le h in
      let below = leb-true (get_or rs j d).position p e in
      le-leb (get_or rs i d).position p (omega arith)

  -- the place of a new position
  pub place : (p at : ℕ) → at ≤ length rs → IsPartitionPoint (λ r. leb r.position p ≡ true) (λ r. leb r.position p ≡ false) rs at → ascending (insert (map position_of rs) at p) ≡ true
  place p at le point =
      rising (insert (map position_of rs) at p)
      (IsNonDecreasingBy-insert (λ x. x) (map position_of rs) at p (rises (map position_of rs) order) (omega (arith, length-map rs position_of))
      (λ k d l.
      let here : get_or (map position_of rs) k d ≡ (get_or rs k blank).position = get_or-map position_of rs k blank d (omega arith) in
      let low = leb-true (get_or rs k blank).position p (point.0 k blank (omega arith) l) in
      omega arith)
      (λ k d l h.
      let lt : k < length rs = omega (arith, length-map rs position_of) in
      let here : get_or (map position_of rs) k d ≡ (get_or rs k blank).position = get_or-map position_of rs k blank d lt in
      let high = leb-false (get_or rs k blank).position p (point.1 k blank l lt) in
      omega arith))

-- from a note of a later position on, none answers
pub told_before : (t : Table) (s : Side) (p : ℕ) (nd : List ℕ) (i : ℕ) (d : Record) → ascending (positions t) ≡ true → i < length (rows t) → p < (get_or (rows t) i d).position → Unanswered t s p nd i → told (held t) s p nd ≡ false
told_before t s p nd i d order h after off =
    told_none t s p nd (λ k e lt. elim (cases_lt k i) [
      | inl before ↦ off k e before
      | inr past ↦
          let up = by_position (rows t) order i k e past lt in
          let same = get_or_default (rows t) i d e h in
          let same_position : (get_or (rows t) i d).position ≡ (get_or (rows t) i e).position = ap position_of same in
          answers-position s p nd (read t.bytes (get_or (rows t) k e)) (λ at. omega arith)
    ])
