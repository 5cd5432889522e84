-- A text and the spelling of its tokens.
use Rattle.std.proofs.Common.{◌≡◌, ℕ, zero, suc, ◌+◌, ◌<◌, true, false, cond, ◌⊎◌, List, [], ◌∷◌, ◌++◌, length, take, drop, sym, refl, ap, ◌∙◌, subst, inl, inr, arith, length-drop}
use Rattle.std.specs.List.{prefix_len}
use Rattle.std.proofs.lemmas.List.{length-take-le, take-append-drop}
use Rattle.std.proofs.lemmas.List.Sums.{prefix_len-le-length}
use Rattle.std.proofs.lemmas.Bool.Decides.{nat_tests}
use Rattle.tables.specs.Text.{class}
use Rattle.tables.specs.declared.text.Class.{Class}
use Rattle.tables.specs.declared.text.Class.TheVariants.{Open, Close, Blank, LineFeed, Letter, Digit, Other}
use Rattle.lex.specs.Tokens.{Tok, opens, closes, blank, feed, run, end, foul, solid, lawful, by_class, run_of, first, size}
use Rattle.lex.specs.Texts.{then, tokens_by, tokens, plainly, spelled, spelling}
use Rattle.lex.proofs.First.{size-first}
use Rattle.lex.proofs.Texts.{Moves, first_moves}

-- no token is foul
abbrev pub NoFoul : List Tok → Type 0
NoFoul [] = Unit {0}
NoFoul (opens ∷ ts) = NoFoul ts
NoFoul (closes ∷ ts) = NoFoul ts
NoFoul (blank ∷ ts) = NoFoul ts
NoFoul (feed ∷ ts) = NoFoul ts
NoFoul (run bs ∷ ts) = NoFoul ts
NoFoul (end ∷ ts) = NoFoul ts
NoFoul (foul ∷ ts) = ⊥

-- the last token is the end or foul
abbrev pub Ends : List Tok → Type 0
Ends [] = ⊥
Ends (t ∷ []) = (t ≡ end) ⊎ (t ≡ foul)
Ends (t ∷ u ∷ ts) = Ends (u ∷ ts)

-- a token stands at the front of a text
abbrev Front : Tok → List ℕ → Type 0
Front opens bs = bs ≡ 40 ∷ drop 1 bs
Front closes bs = bs ≡ 41 ∷ drop 1 bs
Front blank bs = bs ≡ 32 ∷ drop 1 bs
Front feed bs = bs ≡ 10 ∷ drop 1 bs
Front (run cs) bs = bs ≡ cs ++ drop (length cs) bs
Front end bs = bs ≡ []
Front foul bs = Unit {0}

open_is : (c : ℕ) → class c ≡ Open → c ≡ 40
open_is c e = grind (arith, nat_tests)

close_is : (c : ℕ) → class c ≡ Close → c ≡ 41
close_is c e = grind (arith, nat_tests)

blank_is : (c : ℕ) → class c ≡ Blank → c ≡ 32
blank_is c e = grind (arith, nat_tests)

feed_is : (c : ℕ) → class c ≡ LineFeed → c ≡ 10
feed_is c e = grind (arith, nat_tests)

front_run : (bs : List ℕ) → Front (run_of (take (prefix_len solid bs) bs)) bs
front_run bs =
    let n : ℕ = prefix_len solid bs in
    let l : length (take n bs) ≡ n = length-take-le n bs (prefix_len-le-length solid bs) in
    let w : bs ≡ take n bs ++ drop (length (take n bs)) bs = sym (ap (λ k. take n bs ++ drop k bs) l ∙ take-append-drop n bs) in
    elim (lawful (take n bs)) as (λ t. Front (cond t (run (take n bs)) foul) bs) [ true ↦ w | false ↦ tt ]

front_class : (bs : List ℕ) (c : ℕ) (k : Class) → class c ≡ k → Front (by_class k (c ∷ bs)) (c ∷ bs)
front_class bs c Open e = ap (λ b. b ∷ bs) (open_is c e)
front_class bs c Close e = ap (λ b. b ∷ bs) (close_is c e)
front_class bs c Blank e = ap (λ b. b ∷ bs) (blank_is c e)
front_class bs c LineFeed e = ap (λ b. b ∷ bs) (feed_is c e)
front_class bs c Letter e = front_run (c ∷ bs)
front_class bs c Digit e = front_run (c ∷ bs)
front_class bs c Other e = front_run (c ∷ bs)

first_front : (bs : List ℕ) → Front (first bs) bs
unfolding first
first_front [] = refl
first_front (b ∷ bs) = front_class bs b (class b) refl

-- a token and what the tokens after it spell
spells_then : (t : Tok) (bs : List ℕ) (ts : List (ℕ × Tok)) → Front t bs → Moves t → (0 < size t → NoFoul (plainly ts) → drop (size t) bs ≡ spelling (plainly ts)) → NoFoul (t ∷ plainly (then t ts)) → bs ≡ spelled t ++ spelling (plainly (then t ts))
spells_then opens bs ts f v g n = f ∙ ap (λ x. 40 ∷ x) (g (omega arith) n)
spells_then closes bs ts f v g n = f ∙ ap (λ x. 41 ∷ x) (g (omega arith) n)
spells_then blank bs ts f v g n = f ∙ ap (λ x. 32 ∷ x) (g (omega arith) n)
spells_then feed bs ts f v g n = f ∙ ap (λ x. 10 ∷ x) (g (omega arith) n)
spells_then (run cs) bs ts f v g n = f ∙ ap (λ x. cs ++ x) (g v n)
spells_then end bs ts f v g n = f
spells_then foul bs ts f v g n = absurd n

spells_by : (n at : ℕ) (bs : List ℕ) → length bs < n → NoFoul (plainly (tokens_by n at bs)) → bs ≡ spelling (plainly (tokens_by n at bs))
spells_by zero at bs h c = absurd (omega arith)
spells_by (suc n) at bs h c = spells_then (first bs) bs (tokens_by n (at + size (first bs)) (drop (size (first bs)) bs)) (first_front bs) (first_moves bs)
    (λ v. spells_by n (at + size (first bs)) (drop (size (first bs)) bs) (omega (arith, size-first bs, length-drop (size (first bs)) bs))) c

-- the tokens of a text spell it, if none is foul
pub text_of : (form : List ℕ) (ts : List Tok) → plainly (tokens 0 form) ≡ ts → NoFoul ts → form ≡ spelling ts
unfolding tokens
text_of form ts e n = subst (λ us. NoFoul us → form ≡ spelling us) e (spells_by (suc (length form)) 0 form (omega arith)) n

ends_more : (t : Tok) (ts : List Tok) → Ends ts → Ends (t ∷ ts)
ends_more t [] e = absurd e
ends_more t (u ∷ ts) e = e

ends_then : (t : Tok) (ts : List (ℕ × Tok)) → Moves t → (0 < size t → Ends (plainly ts)) → Ends (t ∷ plainly (then t ts))
ends_then opens ts v g = ends_more opens (plainly ts) (g (omega arith))
ends_then closes ts v g = ends_more closes (plainly ts) (g (omega arith))
ends_then blank ts v g = ends_more blank (plainly ts) (g (omega arith))
ends_then feed ts v g = ends_more feed (plainly ts) (g (omega arith))
ends_then (run cs) ts v g = ends_more (run cs) (plainly ts) (g v)
ends_then end ts v g = inl refl
ends_then foul ts v g = inr refl

ends_by : (n at : ℕ) (bs : List ℕ) → length bs < n → Ends (plainly (tokens_by n at bs))
ends_by zero at bs h = absurd (omega arith)
ends_by (suc n) at bs h = ends_then (first bs) (tokens_by n (at + size (first bs)) (drop (size (first bs)) bs)) (first_moves bs)
    (λ v. ends_by n (at + size (first bs)) (drop (size (first bs)) bs) (omega (arith, size-first bs, length-drop (size (first bs)) bs)))

-- the last token of a text is its end or foul
pub ends : (form : List ℕ) → Ends (plainly (tokens 0 form))
unfolding tokens
ends form = ends_by (suc (length form)) 0 form (omega arith)
