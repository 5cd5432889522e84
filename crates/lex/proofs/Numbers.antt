-- A number is read back from its text, and no other text is read as it.
use Rattle.std.proofs.Common.{◌≡◌, ℕ, ◌+◌, ◌-◌, ◌*◌, ◌^◌, ◌<◌, ◌≤◌, Bool, true, not, ◌&&◌, eqb, ltb, leb, List, [], ◌∷◌, length, get_or, Some, None, decimal, Option, sym, refl, ap, ◌∙◌, ⊎_elim, arith, rules}
use Rattle.std.proofs.lemmas.Str.Parse.{IsNumeralModel, numerals_by_fold}
use Rattle.std.proofs.lemmas.Fmt.{digits_decimal, digits_value-decimal, decimal-digits_value, decimal_nonempty, first_decimal, decimal_digit}
use Rattle.std.proofs.lemmas.Bool.{le-leb, leb-true, and_parts, and_from, cond-true, cond-false, cases_Bool, cases_eq, ne_eqb, ltb-false, eqb-false, le-ltb, and_left, and_right, and_cases, not_from_false, not-true}
use Rattle.tables.specs.Text.{digit, every}
use Rattle.lex.specs.Numbers.{read_on, plain, number_of}

abbrev all_dig : List ℕ → Bool
all_dig ds = every digit ds

abbrev value_on : ℕ → List ℕ → ℕ
value_on n [] = n
value_on n (c ∷ cs) = value_on (n * 10 + (c - 48)) cs

own : IsNumeralModel (λ ds. all_dig ds ≡ true) (value_on 0)
own = numerals_by_fold _ (search rules) value_on (search rules)

grows : (n : ℕ) (cs : List ℕ) → n ≤ value_on n cs
grows n [] = omega arith
grows n (c ∷ cs) = omega (arith, grows (n * 10 + (c - 48)) cs)

reads : (limit n : ℕ) (cs : List ℕ) → all_dig cs ≡ true → value_on n cs ≤ limit → read_on limit n cs ≡ Some (value_on n cs)
reads limit n [] d h = refl
reads limit n (c ∷ cs) d h =
    let p = and_parts (digit c) (all_dig cs) d in
    let m : n * 10 + (c - 48) ≤ limit = omega (arith, grows (n * 10 + (c - 48)) cs) in
    cond-true _ _ _ p.0 ∙ cond-true _ _ _ (le-leb _ _ m) ∙ reads limit (n * 10 + (c - 48)) cs p.1 h

not_none : {x : ℕ} → ◌≡◌ {A = Option ℕ} None (Some x) → ⊥
not_none e = cc

some_same : {x y : ℕ} → ◌≡◌ {A = Option ℕ} (Some x) (Some y) → x ≡ y
some_same e = cc

-- what was read are digits, and their value is within the limit
was_read : (limit n x : ℕ) (cs : List ℕ) → n ≤ limit → read_on limit n cs ≡ Some x → (all_dig cs ≡ true) × (value_on n cs ≡ x) × (x ≤ limit)
was_read limit n x [] h e = let s = some_same e in (refl, s, omega arith)
was_read limit n x (c ∷ cs) h e = ⊎_elim
    (λ d. ⊎_elim
    (λ m. let q = was_read limit (n * 10 + (c - 48)) x cs (leb-true _ _ m) (sym (cond-true _ _ _ m) ∙ sym (cond-true _ _ _ d) ∙ e) in (and_from _ _ d q.0, q.1, q.2))
    (λ m. absurd (not_none (sym (cond-false _ _ _ m) ∙ sym (cond-true _ _ _ d) ∙ e)))
    (cases_Bool (leb (n * 10 + (c - 48)) limit)))
    (λ d. absurd (not_none (sym (cond-false _ _ _ d) ∙ e)))
    (cases_Bool (digit c))

plain-decimal : (n : ℕ) → n < 2 ^ 64 → plain (decimal n) ≡ true
plain-decimal n h =
    let some = decimal_nonempty n h in
    let none : length (decimal n) ≡ 0 → ⊥ = λ e. omega arith in
    let short : n ≡ 0 → length (decimal n) ≤ 1 = λ z. let one : length (decimal n) ≡ 1 = ap length (decimal_digit n (omega arith)) in omega arith in
    let high : (n ≡ 0 → ⊥) → get_or (decimal n) 0 0 ≡ 48 → ⊥ = λ z e. omega (arith, first_decimal n (omega arith) h) in
    and_from _ _ (not_from_false _ (ne_eqb _ _ none))
    (not_from_false _ (⊎_elim (λ z. and_left _ _ (le-ltb 1 (length (decimal n)) (short z))) (λ z. and_right _ _ (ne_eqb _ _ (high z))) (cases_eq n 0)))

pub read_back : (limit n : ℕ) → n ≤ limit → n < 2 ^ 64 → number_of limit (decimal n) ≡ Some n
read_back limit n h w =
    let v = digits_value-decimal own n w in
    cond-true _ _ _ (plain-decimal n w) ∙ reads limit 0 (decimal n) (digits_decimal own n w) (omega arith) ∙ ap (λ m. Some m) v

-- a text that is read as a number is what is written of it, and the number is within the limit
pub only_decimal : (limit n : ℕ) (bs : List ℕ) → limit < 2 ^ 64 → number_of limit bs ≡ Some n → (bs ≡ decimal n) × (n ≤ limit)
only_decimal limit n bs w e = ⊎_elim
    (λ p.
    let q = was_read limit 0 n bs (omega arith) (sym (cond-true _ _ _ p) ∙ e) in
    let two = and_parts (not (eqb (length bs) 0)) (not (ltb 1 (length bs) && eqb (get_or bs 0 0) 48)) p in
    let some : 0 < length bs = let ne = eqb-false (length bs) 0 (not-true _ two.0) in omega arith in
    let zero : get_or bs 0 0 ≡ 48 → length bs ≡ 1 = λ z. ⊎_elim (λ l. let le = ltb-false 1 (length bs) l in omega arith) (λ f. absurd (eqb-false (get_or bs 0 0) 48 f z)) (and_cases _ _ (not-true _ two.1)) in
    (sym (decimal-digits_value own bs q.0 some zero (omega (arith, q.1, q.2))) ∙ ap decimal q.1, q.2))
    (λ p. absurd (not_none (sym (cond-false _ _ _ p) ∙ e)))
    (cases_Bool (plain bs))

-- a test that holds wherever another does
pub every_also : (p q : ℕ → Bool) → ((c : ℕ) → p c ≡ true → q c ≡ true) → (cs : List ℕ) → every p cs ≡ true → every q cs ≡ true
every_also p q f [] h = refl
every_also p q f (c ∷ cs) h = let w = and_parts (p c) (every p cs) h in and_from _ _ (f c w.0) (every_also p q f cs w.1)

-- a test that holds of digits holds of every byte of a number's text
pub all_decimal : (p : ℕ → Bool) → ((c : ℕ) → digit c ≡ true → p c ≡ true) → (n : ℕ) → n < 2 ^ 64 → every p (decimal n) ≡ true
all_decimal p h n w = every_also digit p h (decimal n) (digits_decimal own n w)
