-- The tokens of a text, one by one.
use Rattle.std.proofs.Common.{◌≡◌, ℕ, zero, suc, ◌+◌, ◌<◌, ◌≤◌, true, false, cond, List, [], ◌∷◌, length, take, drop, sym, refl, ap, ◌∙◌, arith, length-drop}
use Rattle.std.specs.List.{prefix_len}
use Rattle.std.proofs.lemmas.List.{drop-drop, length-take-le}
use Rattle.std.proofs.lemmas.List.Sums.{prefix_len-le-length}
use Rattle.std.proofs.lemmas.Bool.{cond-true}
use Rattle.tables.specs.Text.{class}
use Rattle.tables.specs.declared.text.Class.{Class}
use Rattle.tables.specs.declared.text.Class.TheVariants.{Open, Close, Blank, LineFeed, Letter, Digit, Other}
use Rattle.lex.specs.Tokens.{Tok, opens, closes, blank, feed, run, end, foul, in_run, solid, lawful, by_class, run_of, first, size, token_at}
use Rattle.lex.specs.Texts.{then, tokens_by, tokens}
use Rattle.lex.proofs.First.{size-first}

-- a token after which there are others takes a byte
abbrev pub Moves : Tok → Type 0
Moves opens = Unit {0}
Moves closes = Unit {0}
Moves blank = Unit {0}
Moves feed = Unit {0}
Moves (run bs) = 0 < length bs
Moves end = Unit {0}
Moves foul = Unit {0}

some_run : (bs : List ℕ) (c : ℕ) → solid c ≡ true → Moves (run_of (take (prefix_len solid (c ∷ bs)) (c ∷ bs)))
some_run bs c h =
    let n : prefix_len solid (c ∷ bs) ≡ 1 + prefix_len solid bs = cond-true _ _ _ h in
    let l : 0 < length (take (prefix_len solid (c ∷ bs)) (c ∷ bs)) = omega (arith, length-take-le (prefix_len solid (c ∷ bs)) (c ∷ bs) (prefix_len-le-length solid (c ∷ bs))) in
    elim (lawful (take (prefix_len solid (c ∷ bs)) (c ∷ bs))) as (λ t. Moves (cond t (run (take (prefix_len solid (c ∷ bs)) (c ∷ bs))) foul)) [ true ↦ l | false ↦ tt ]

moves_class : (bs : List ℕ) (c : ℕ) (k : Class) → class c ≡ k → Moves (by_class k (c ∷ bs))
moves_class bs c Open e = tt
moves_class bs c Close e = tt
moves_class bs c Blank e = tt
moves_class bs c LineFeed e = tt
moves_class bs c Letter e = some_run bs c (ap in_run e)
moves_class bs c Digit e = some_run bs c (ap in_run e)
moves_class bs c Other e = some_run bs c (ap in_run e)

pub first_moves : (bs : List ℕ) → Moves (first bs)
unfolding first
first_moves [] = tt
first_moves (b ∷ bs) = moves_class bs b (class b) refl

moved_on : (n m at : ℕ) (bs rest : List ℕ) (t : Tok) → Moves t → size t ≤ length bs → (0 < size t → tokens_by n at rest ≡ tokens_by m at rest) → then t (tokens_by n at rest) ≡ then t (tokens_by m at rest)
moved_on n m at bs rest opens v z f = f (omega arith)
moved_on n m at bs rest closes v z f = f (omega arith)
moved_on n m at bs rest blank v z f = f (omega arith)
moved_on n m at bs rest feed v z f = f (omega arith)
moved_on n m at bs rest (run cs) v z f = f v
moved_on n m at bs rest end v z f = refl
moved_on n m at bs rest foul v z f = refl

-- enough turns give the same tokens
same_turns : (n m at : ℕ) (bs : List ℕ) → length bs < n → length bs < m → tokens_by n at bs ≡ tokens_by m at bs
same_turns zero m at bs h g = absurd (omega arith)
same_turns (suc n) zero at bs h g = absurd (omega arith)
same_turns (suc n) (suc m) at bs h g = ap (λ ts. (at, first bs) ∷ ts) (moved_on n m (at + size (first bs)) bs (drop (size (first bs)) bs) (first bs) (first_moves bs) (size-first bs) (λ le. same_turns n m (at + size (first bs)) (drop (size (first bs)) bs) (omega (arith, size-first bs, length-drop (size (first bs)) bs)) (omega (arith, size-first bs, length-drop (size (first bs)) bs))))

pub tokens-step : (at : ℕ) (bs : List ℕ) → tokens at bs ≡ (at, first bs) ∷ then (first bs) (tokens (at + size (first bs)) (drop (size (first bs)) bs))
unfolding tokens
tokens-step at bs = ap (λ ts. (at, first bs) ∷ ts) (moved_on (length bs) (suc (length (drop (size (first bs)) bs))) (at + size (first bs)) bs (drop (size (first bs)) bs) (first bs) (first_moves bs) (size-first bs) (λ le. same_turns (length bs) (suc (length (drop (size (first bs)) bs))) (at + size (first bs)) (drop (size (first bs)) bs) (omega (arith, size-first bs, length-drop (size (first bs)) bs)) (omega arith)))

-- from a place in a text to the place after the token there
pub tokens_at : (text : List ℕ) (at next : ℕ) (t : Tok) → t ≡ token_at text at → next ≡ at + size (token_at text at) → tokens at (drop at text) ≡ (at, t) ∷ then t (tokens next (drop next text))
tokens_at text at next t e n =
    tokens-step at (drop at text) ∙ ap (λ x. (at, x) ∷ then x (tokens (at + size (first (drop at text))) (drop (size (first (drop at text))) (drop at text)))) (sym e)
    ∙ ap (λ x. (at, t) ∷ then t (tokens (at + size (first (drop at text))) x)) (drop-drop (size (first (drop at text))) at text)
    ∙ ap (λ j. (at, t) ∷ then t (tokens j (drop j text))) (sym (n ∙ refl))
