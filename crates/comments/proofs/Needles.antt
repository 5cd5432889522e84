-- A search for a needle in a text, from one start place to the next.
use Rattle.std.proofs.Common.{◌≡◌, ℕ, zero, suc, ◌+◌, ◌-◌, ◌<◌, ◌≤◌, true, false, ◌&&◌, eqb, List, [], ◌∷◌, ◌⊎◌, length, get_or, drop, sym, refl, ap, ◌∙◌, ap₂, inl, inr, arith, length-drop}
use Rattle.std.proofs.lemmas.List.{drop_more}
use Rattle.std.proofs.lemmas.Bool.{and_right, or_from, or_left, or_right, cases_lt, eq-eqb, ne_eqb}
use Rattle.comments.specs.Notes.{begins, has}

-- ---- needle bytes
begins_short : (t nd : List ℕ) → length t < length nd → begins t nd ≡ false
begins_short [] [] h = absurd (omega arith)
begins_short (x ∷ t) [] h = absurd (omega arith)
begins_short [] (n ∷ nd) h = refl
begins_short (x ∷ t) (n ∷ nd) h = and_right (eqb x n) (begins t nd) (begins_short t nd (omega arith))

begins-more : (t nd : List ℕ) (j k : ℕ) → j < length t → k < length nd → get_or t j 0 ≡ get_or nd k 0 → begins (drop (j + 1) t) (drop (k + 1) nd) ≡ begins (drop j t) (drop k nd)
begins-more t nd j k lt ln e =
    sym (ap₂ begins (drop_more t j 0 lt) (drop_more nd k 0 ln) ∙ ap (λ b. b && begins (drop (j + 1) t) (drop (k + 1) nd)) (eq-eqb (get_or t j 0) (get_or nd k 0) e))

begins-off : (t nd : List ℕ) (j k : ℕ) → j < length t → k < length nd → (get_or t j 0 ≡ get_or nd k 0 → ⊥) → begins (drop j t) (drop k nd) ≡ false
begins-off t nd j k lt ln e =
    ap₂ begins (drop_more t j 0 lt) (drop_more nd k 0 ln) ∙ ap (λ b. b && begins (drop (j + 1) t) (drop (k + 1) nd)) (ne_eqb (get_or t j 0) (get_or nd k 0) e)

module _ (t nd : List ℕ) (at k : ℕ) (ha : at < length t + 1 - length nd) (hk : k < length nd) (same : begins (drop (at + k) t) (drop k nd) ≡ begins (drop at t) nd) where
  -- a byte is the same: on to the next byte
  pub byte_more : get_or t (at + k) 0 ≡ get_or nd k 0 → begins (drop (at + (k + 1)) t) (drop (k + 1) nd) ≡ begins (drop at t) nd
  byte_more e =
      let lt : at + k < length t = omega arith in
      let one : at + (k + 1) ≡ at + k + 1 = omega arith in
      ap (λ i. begins (drop i t) (drop (k + 1) nd)) one ∙ begins-more t nd (at + k) k lt hk e ∙ same

  -- a byte differs: the needle does not stand here
  pub place_off : (get_or t (at + k) 0 ≡ get_or nd k 0 → ⊥) → begins (drop at t) nd ≡ false
  place_off off =
      let lt : at + k < length t = omega arith in
      sym same ∙ begins-off t nd (at + k) k lt hk off

-- no byte of the needle is left
pub begins_all : (t nd : List ℕ) → length nd ≤ length t → (t ≡ []) ⊎ (nd ≡ []) → begins t nd ≡ true
begins_all [] [] h e = refl
begins_all (x ∷ t) [] h e = refl
begins_all [] (n ∷ nd) h e = absurd (omega arith)
begins_all (x ∷ t) (n ∷ nd) h (inl e) = absurd (omega (arith, ap length e))
begins_all (x ∷ t) (n ∷ nd) h (inr e) = absurd (omega (arith, ap length e))

-- ---- start places
pub has_here : (t nd : List ℕ) (at : ℕ) → begins (drop at t) nd ≡ true → has t nd ≡ true
has_here [] nd zero e = e
has_here [] nd (suc at) e = e
has_here (x ∷ t) nd zero e = or_left (begins (x ∷ t) nd) (has t nd) e
has_here (x ∷ t) nd (suc at) e = or_right (begins (x ∷ t) nd) (has t nd) (has_here t nd at e)

has_nowhere : (t nd : List ℕ) → ((k : ℕ) → k ≤ length t → begins (drop k t) nd ≡ false) → has t nd ≡ false
has_nowhere [] nd off = off 0 (omega arith)
has_nowhere (x ∷ t) nd off = or_from (begins (x ∷ t) nd) (has t nd) (off 0 (omega arith)) (has_nowhere t nd (λ k h. off (suc k) (omega arith)))

-- one place more at which it does not stand
pub nowhere_more : (t nd : List ℕ) (at : ℕ) → ((k : ℕ) → k < at → begins (drop k t) nd ≡ false) → begins (drop at t) nd ≡ false → (k : ℕ) → k < at + 1 → begins (drop k t) nd ≡ false
nowhere_more t nd at before here k h = elim (cases_lt k at) [
  | inl lt ↦ before k lt
  | inr le ↦ let e : k ≡ at = omega arith in ap (λ j. begins (drop j t) nd) e ∙ here
]

-- past the last place the needle is longer than the text that is left
pub has_none : (t nd : List ℕ) (at : ℕ) → length t + 1 - length nd ≤ at → ((k : ℕ) → k < at → begins (drop k t) nd ≡ false) → has t nd ≡ false
has_none t nd at h off =
    has_nowhere t nd (λ k le. elim (cases_lt k at) [
      | inl before ↦ off k before
      | inr past ↦ begins_short (drop k t) nd (omega (arith, length-drop k t))
    ])
