-- The lines of a text that was cut at its first line feed, or has none.
use Rattle.std.proofs.Common.{◌≡◌, ℕ, ◌<◌, List, [], ◌∷◌, ◌++◌, length, Bor, Option, Some, None, suc, refl, inl, inr, arith}
use Rattle.std.proofs.lemmas.Bool.Decides.{eqb_tells}
use Rattle.std.specs.Prelude.{MatchOption}
use Rattle.std.specs.List.{Contains}
use Rattle.std.specs.Option.{unwrap_or}
use Rattle.input.specs.Lines.{lines}

-- what the rest lacks, where the whole lacks it
lacks : (x : ℕ) (xs : List ℕ) (b : ℕ) → ¬ (Contains (x ∷ xs) b) → ¬ (Contains xs b)
lacks x xs b h (k, below, is) = h (suc k, omega (arith, below), is)

lines-cut : (xs ys : List ℕ) → ¬ (Contains xs 10) → lines (xs ++ 10 ∷ ys) ≡ xs ∷ lines ys
lines-cut [] ys h = refl
lines-cut (x ∷ xs) ys h =
    elim (eqb_tells x 10) [
      | inl (t, e) ↦ absurd (h (0, omega arith, e))
      | inr (f, n) ↦ rw f (rw (lines-cut xs ys (lacks x xs 10 h)) refl)
    ]

lines-whole : (xs : List ℕ) → 0 < length xs → ¬ (Contains xs 10) → lines xs ≡ xs ∷ []
lines-whole [] e h = absurd (omega (arith, e))
lines-whole (x ∷ []) e h =
    elim (eqb_tells x 10) [
      | inl (t, e) ↦ absurd (h (0, omega arith, e))
      | inr (f, n) ↦ rw f refl
    ]
lines-whole (x ∷ y ∷ ys) e h =
    elim (eqb_tells x 10) [
      | inl (t, e) ↦ absurd (h (0, omega arith, e))
      | inr (f, n) ↦ rw f (rw (lines-whole (y ∷ ys) (omega arith) (lacks x (y ∷ ys) 10 h)) refl)
    ]

-- the first line and the lines of the rest, where all is the first line if nothing cuts it
pub lines-next : (text empty : Bor (List ℕ)) (r : Option (Bor (List ℕ) × Bor (List ℕ))) → empty.now ≡ [] → 0 < length text.now → MatchOption r (¬ (Contains text.now 10)) (λ p. (text.now ≡ p.0.now ++ 10 ∷ p.1.now) × ¬ (Contains p.0.now 10)) → lines text.now ≡ (unwrap_or r (text, empty)).0.now ∷ lines (unwrap_or r (text, empty)).1.now
lines-next text empty None e some h = rw e (lines-whole text.now some h)
lines-next text empty (Some p) e some h = rw (h.0) (lines-cut p.0.now p.1.now (h.1))
