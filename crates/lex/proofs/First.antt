-- The first token, by the first byte.
use Rattle.std.proofs.Common.{◌≡◌, ℕ, ◌+◌, ◌<◌, ◌≤◌, Bool, true, false, cond, ◌⊎◌, List, [], ◌∷◌, length, get_or, take, drop, sym, refl, ap, ◌∙◌, ⊎_elim, arith, length-drop}
use Rattle.std.specs.Bool.{then_some}
use Rattle.std.specs.List.{prefix_len}
use Rattle.std.proofs.lemmas.List.{length-take-le}
use Rattle.std.proofs.lemmas.List.Sums.{prefix_len-le-length}
use Rattle.tables.specs.Text.{class}
use Rattle.lex.specs.Tokens.{end, foul, run, solid, lawful, by_class, run_of, first, size, view, viewed}
use Rattle.lex.specs.declared.token.Token.{Token}
use Rattle.tables.specs.declared.text.Class.{Class}
use Rattle.tables.specs.declared.text.Class.TheVariants.{Open, Close, Blank, LineFeed, Letter, Digit, Other}

pub first_none : (bs : List ℕ) → length bs ≡ 0 → end ≡ first bs
unfolding first
first_none [] h = refl
first_none (b ∷ bs) h = absurd (omega arith)

pub first_some : (bs : List ℕ) (k : Class) → 0 < length bs → k ≡ class (get_or bs 0 0) → by_class k bs ≡ first bs
unfolding first
first_some [] k h e = absurd (omega arith)
first_some (b ∷ bs) k h e = ap (λ j. by_class j (b ∷ bs)) e

size-run_of : (bs : List ℕ) (n : ℕ) → length bs ≤ n → size (run_of bs) ≤ n
size-run_of bs n h = elim (lawful bs) as (λ t. size (cond t (run bs) foul) ≤ n) [ true ↦ h | false ↦ omega arith ]

size_of_run : (bs : List ℕ) → size (run_of (take (prefix_len solid bs) bs)) ≤ length bs
size_of_run bs = size-run_of (take (prefix_len solid bs) bs) (length bs) (omega (arith, prefix_len-le-length solid bs, length-take-le (prefix_len solid bs) bs (prefix_len-le-length solid bs)))

size-by_class : (k : Class) (bs : List ℕ) → 0 < length bs → size (by_class k bs) ≤ length bs
size-by_class Open bs h = h
size-by_class Close bs h = h
size-by_class Blank bs h = h
size-by_class LineFeed bs h = h
size-by_class Letter bs h = size_of_run bs
size-by_class Digit bs h = size_of_run bs
size-by_class Other bs h = size_of_run bs

pub size-first : (bs : List ℕ) → size (first bs) ≤ length bs
unfolding first
size-first [] = omega arith
size-first (b ∷ bs) = size-by_class (class b) (b ∷ bs) (omega arith)

-- a token at a place of a text ends within it
pub size_at : (text : List ℕ) (at : ℕ) → at ≤ length text → at + size (first (drop at text)) ≤ length text
size_at text at h = omega (arith, size-first (drop at text), length-drop at text)

-- a run is a token if its bytes are lawful
pub viewed_run : (t : Bool) (r : Token) (bs : List ℕ) → view r ≡ run bs → viewed (then_some t r) ≡ cond t (run bs) foul
viewed_run t r bs e = elim t as (λ b. viewed (then_some b r) ≡ cond b (run bs) foul) [ true ↦ e | false ↦ refl ]

pub first_run : (bs : List ℕ) (k : Class) (n : ℕ) (t : Bool) → 0 < length bs → k ≡ class (get_or bs 0 0) → (k ≡ Letter) ⊎ ((k ≡ Digit) ⊎ (k ≡ Other)) → n ≡ prefix_len solid bs → t ≡ lawful (take n bs) → cond t (run (take n bs)) foul ≡ first bs
first_run bs k n t h e w l a =
    ap (λ b. cond b (run (take n bs)) foul) a ∙ ap (λ j. run_of (take j bs)) l ∙
    ⊎_elim (λ q. sym (ap (λ j. by_class j bs) q) ∙ first_some bs k h e) (⊎_elim (λ q. sym (ap (λ j. by_class j bs) q) ∙ first_some bs k h e) (λ q. sym (ap (λ j. by_class j bs) q) ∙ first_some bs k h e)) w
