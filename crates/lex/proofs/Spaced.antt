-- Tokens that are read back from what they spell, and the places of tokens.
use Rattle.std.proofs.Common.{◌≡◌, ℕ, zero, suc, ◌+◌, ◌^◌, ◌<◌, true, false, ◌&&◌, eqb, leb, List, [], ◌∷◌, ◌++◌, length, take, drop, decimal, sym, refl, ap, ◌∙◌, subst, ⊎_elim, arith}
use Rattle.std.specs.List.{prefix_len}
use Rattle.std.specs.Str.{bytes_eq}
use Rattle.std.proofs.lemmas.List.{take_at, drop_at, length-append}
use Rattle.std.proofs.lemmas.Fmt.{decimal_nonempty}
use Rattle.std.proofs.lemmas.Bool.{cond-true, and_parts, and_from, or_cases, or_right, eqb-true, false≢true}
use Rattle.std.proofs.lemmas.Bool.Decides.{nat_tests}
use Rattle.tables.specs.Text.{class, letter, digit, every, in_name, starts_name, name}
use Rattle.tables.specs.declared.text.Class.{Class}
use Rattle.tables.specs.declared.text.Class.TheVariants.{Open, Close, Blank, LineFeed, Letter, Digit, Other}
use Rattle.lex.specs.Tokens.{Tok, opens, closes, blank, feed, run, end, foul, in_run, solid, lawful, by_class, run_of, first, size}
use Rattle.lex.specs.Texts.{then, tokens_by, tokens, plainly, spelled, spelling}
use Rattle.lex.proofs.Numbers.{all_decimal, every_also}
use Rattle.lex.proofs.Texts.{tokens-step}

-- bytes that are read as one run
pub record Lone (bs : List ℕ) : Type 0 where
  pub some : 0 < length bs
  pub lawfully : lawful bs ≡ true

-- the first token is no run and not foul
abbrev pub Breaks : List Tok → Type 0
Breaks [] = ⊥
Breaks (opens ∷ ts) = Unit {0}
Breaks (closes ∷ ts) = Unit {0}
Breaks (blank ∷ ts) = Unit {0}
Breaks (feed ∷ ts) = Unit {0}
Breaks (run bs ∷ ts) = ⊥
Breaks (end ∷ ts) = Unit {0}
Breaks (foul ∷ ts) = ⊥

-- no runs side by side, the end last and only there, nothing foul
abbrev pub Spaced : List Tok → Type 0
Spaced [] = ⊥
Spaced (opens ∷ ts) = Spaced ts
Spaced (closes ∷ ts) = Spaced ts
Spaced (blank ∷ ts) = Spaced ts
Spaced (feed ∷ ts) = Spaced ts
Spaced (run bs ∷ ts) = Lone bs × Breaks ts × Spaced ts
Spaced (end ∷ ts) = ts ≡ []
Spaced (foul ∷ ts) = ⊥

name_solid : (c : ℕ) → in_name c ≡ true → solid c ≡ true
name_solid c h = grind (arith, nat_tests)

names-solid : (bs : List ℕ) → every in_name bs ≡ true → every solid bs ≡ true
names-solid bs h = every_also in_name solid name_solid bs h

dash-solid : (bs : List ℕ) → bytes_eq bs (45 ∷ []) ≡ true → every solid bs ≡ true
dash-solid [] h = absurd (false≢true h)
dash-solid (c ∷ []) h = let e = eqb-true c 45 (and_parts (eqb c 45) true h).0 in and_from _ _ (ap solid e) refl
dash-solid (c ∷ d ∷ bs) h = absurd (false≢true (and_parts (eqb c 45) false h).1)

lawful-solid : (bs : List ℕ) → lawful bs ≡ true → every solid bs ≡ true
lawful-solid bs h = ⊎_elim (dash-solid bs) (names-solid bs) (or_cases (bytes_eq bs (45 ∷ [])) (every in_name bs) h)

no_lead : (ts : List Tok) → Breaks ts → Spaced ts → prefix_len solid (spelling ts) ≡ 0
no_lead [] b s = absurd b
no_lead (opens ∷ ts) b s = refl
no_lead (closes ∷ ts) b s = refl
no_lead (blank ∷ ts) b s = refl
no_lead (feed ∷ ts) b s = refl
no_lead (run bs ∷ ts) b s = absurd b
no_lead (end ∷ ts) b s = ap (λ x. prefix_len solid (spelling x)) s
no_lead (foul ∷ ts) b s = absurd b

lead : (bs rest : List ℕ) → every solid bs ≡ true → prefix_len solid rest ≡ 0 → prefix_len solid (bs ++ rest) ≡ length bs
lead [] rest w z = z
lead (c ∷ bs) rest w z =
    let p = and_parts (solid c) (every solid bs) w in
    let one : 1 + length bs ≡ suc (length bs) = omega arith in
    cond-true _ _ _ p.0 ∙ ap (λ n. 1 + n) (lead bs rest p.1 z) ∙ one

class-run : (k : Class) (bs : List ℕ) → in_run k ≡ true → by_class k bs ≡ run_of (take (prefix_len solid bs) bs)
class-run Open bs h = absurd (false≢true h)
class-run Close bs h = absurd (false≢true h)
class-run Blank bs h = absurd (false≢true h)
class-run LineFeed bs h = absurd (false≢true h)
class-run Letter bs h = refl
class-run Digit bs h = refl
class-run Other bs h = refl

first_run : (bs rest : List ℕ) → Lone bs → prefix_len solid rest ≡ 0 → first (bs ++ rest) ≡ run bs
unfolding first
first_run [] rest l z = absurd (omega arith)
first_run (c ∷ bs) rest l z =
    let w = lawful-solid (c ∷ bs) l.lawfully in
    class-run (class c) ((c ∷ bs) ++ rest) (and_parts (solid c) (every solid bs) w).0
    ∙ ap run_of (take_at (c ∷ bs) rest (prefix_len solid ((c ∷ bs) ++ rest)) (sym (lead (c ∷ bs) rest w z)))
    ∙ cond-true _ _ _ l.lawfully

size-spelled : (t : Tok) → size t ≡ length (spelled t)
size-spelled opens = refl
size-spelled closes = refl
size-spelled blank = refl
size-spelled feed = refl
size-spelled (run bs) = refl
size-spelled end = refl
size-spelled foul = refl

one_by_one : (at : ℕ) (t : Tok) (ts : List Tok) → first (spelling (t ∷ ts)) ≡ t → tokens at (spelling (t ∷ ts)) ≡ (at, t) ∷ then t (tokens (at + size t) (spelling ts))
one_by_one at t ts e =
    tokens-step at (spelling (t ∷ ts)) ∙ ap (λ x. (at, x) ∷ then x (tokens (at + size x) (drop (size x) (spelling (t ∷ ts))))) e
    ∙ ap (λ x. (at, t) ∷ then t (tokens (at + size t) x)) (drop_at (spelled t) (spelling ts) (size t) (sym (size-spelled t)))

-- spaced tokens are those of what they spell
pub read_back : (at : ℕ) (ts : List Tok) → Spaced ts → plainly (tokens at (spelling ts)) ≡ ts
unfolding first
read_back at [] s = absurd s
read_back at (opens ∷ ts) s = ap plainly (one_by_one at opens ts refl) ∙ ap (λ x. opens ∷ x) (read_back (at + 1) ts s)
read_back at (closes ∷ ts) s = ap plainly (one_by_one at closes ts refl) ∙ ap (λ x. closes ∷ x) (read_back (at + 1) ts s)
read_back at (blank ∷ ts) s = ap plainly (one_by_one at blank ts refl) ∙ ap (λ x. blank ∷ x) (read_back (at + 1) ts s)
read_back at (feed ∷ ts) s = ap plainly (one_by_one at feed ts refl) ∙ ap (λ x. feed ∷ x) (read_back (at + 1) ts s)
read_back at (run bs ∷ ts) s = ap plainly (one_by_one at (run bs) ts (first_run bs (spelling ts) s.0 (no_lead ts s.1 s.2))) ∙ ap (λ x. run bs ∷ x) (read_back (at + length bs) ts s.2)
read_back at (end ∷ ts) s = ap plainly (one_by_one at end ts (ap (λ x. first (spelling x)) s)) ∙ ap (λ x. end ∷ x) (sym s)
read_back at (foul ∷ ts) s = absurd s

lawful-names : (bs : List ℕ) → every in_name bs ≡ true → lawful bs ≡ true
lawful-names bs h = or_right (bytes_eq bs (45 ∷ [])) (every in_name bs) h

digit_name : (c : ℕ) → digit c ≡ true → in_name c ≡ true
digit_name c h = or_right (letter c) (digit c) h

-- a number's text and a name are runs
pub lone_number : (n : ℕ) → n < 2 ^ 64 → Lone (decimal n)
lone_number n h = record { some = decimal_nonempty n h; lawfully = lawful-names (decimal n) (all_decimal in_name digit_name n h) }

starts_some : (bs : List ℕ) → starts_name bs ≡ true → 0 < length bs
starts_some [] h = absurd (false≢true h)
starts_some (c ∷ bs) h = omega arith

pub lone_name : (bs : List ℕ) → name bs ≡ true → Lone bs
lone_name bs h =
    let p = and_parts (starts_name bs) (leb (length bs) 64 && every in_name bs) h in
    record { some = starts_some bs p.0; lawfully = lawful-names bs (and_parts (leb (length bs) 64) (every in_name bs) p.1).1 }

-- each token stands where those before it end
abbrev pub Placed : ℕ → List (ℕ × Tok) → Type 0
Placed at [] = Unit {0}
Placed at (x ∷ xs) = (x.0 ≡ at) × Placed (at + length (spelled x.1)) xs

placed_then : (t : Tok) (at : ℕ) (ts : List (ℕ × Tok)) → Placed at ts → Placed at (then t ts)
placed_then opens at ts p = p
placed_then closes at ts p = p
placed_then blank at ts p = p
placed_then feed at ts p = p
placed_then (run bs) at ts p = p
placed_then end at ts p = tt
placed_then foul at ts p = tt

placed_by : (n at : ℕ) (bs : List ℕ) → Placed at (tokens_by n at bs)
placed_by zero at bs = tt
placed_by (suc n) at bs =
    let next = placed_then (first bs) (at + size (first bs)) (tokens_by n (at + size (first bs)) (drop (size (first bs)) bs)) (placed_by n (at + size (first bs)) (drop (size (first bs)) bs)) in
    (refl, subst (λ k. Placed (at + k) (then (first bs) (tokens_by n (at + size (first bs)) (drop (size (first bs)) bs)))) (size-spelled (first bs)) next)

pub placed : (at : ℕ) (bs : List ℕ) → Placed at (tokens at bs)
unfolding tokens
placed at bs = placed_by (suc (length bs)) at bs

placed_at : (at : ℕ) (before : List (ℕ × Tok)) (p : ℕ) (t : Tok) (rest : List (ℕ × Tok)) → Placed at (before ++ ((p, t) ∷ rest)) → p ≡ at + length (spelling (plainly before))
placed_at at [] p t rest h = let e = h.0 in omega arith
placed_at at (x ∷ before) p t rest h = let e = placed_at (at + length (spelled x.1)) before p t rest h.1 in omega (arith, length-append (spelled x.1) (spelling (plainly before)))

-- a token's place is the number of bytes before it
pub places : (form : List ℕ) (before : List (ℕ × Tok)) (p : ℕ) (t : Tok) (rest : List (ℕ × Tok)) → tokens 0 form ≡ before ++ ((p, t) ∷ rest) → p ≡ length (spelling (plainly before))
places form before p t rest e = let q = placed_at 0 before p t rest (subst (λ ts. Placed 0 ts) e (placed 0 form)) in omega arith
