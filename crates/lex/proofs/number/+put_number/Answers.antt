use Rattle.std.proofs.Common.{◌≡◌, ℕ, ◌+◌, ◌/◌, ◌%◌, ◌^◌, ◌<◌, ◌≤◌, [], ◌∷◌, ◌++◌, length, decimal, sym, ap, ◌∙◌, mod-eq_of_lt, arith, length-append}
use Rattle.std.proofs.lemmas.Fmt.{decimal_digit, decimal_step, length-decimal-le}
use Rattle.lex.specs.Written.{over}
use Rattle.lex.proofs.Overs.{over_rest}
use Rattle.lex.proofs.number.+put_number.Goals as goal

split : (n : ℕ) → n < 2 ^ 32 → 10 ≤ n → decimal n ≡ decimal (n / 10) ++ ((48 + n % 10) ∷ [])
split n f h = decimal_step n h (omega arith)

longer : (n : ℕ) → n < 2 ^ 32 → 10 ≤ n → length (decimal n) ≡ length (decimal (n / 10)) + 1
longer n f h = ap length (split n f h) ∙ length-append (decimal (n / 10)) ((48 + n % 10) ∷ [])

few : (n : ℕ) → n < 2 ^ 32 → length (decimal n) ≤ 10
few n h = length-decimal-le 10 n (omega arith) (omega arith) (omega arith)

pub returns-then-n-lt10 : goal.returns-then-n-lt10
returns-then-n-lt10 t c =
    let n = c.args.n in
    let one : decimal n ≡ (48 + n % 10) ∷ [] = decimal_digit n c.if-n-lt10.true ∙ ap (λ d. (48 + d) ∷ []) (sym (mod-eq_of_lt c.if-n-lt10.true)) in
    record {
      size = c.put_byte.ensures.size ∙ sym (ap length one);
      few = omega (arith, c.put_byte.ensures.size);
      holds = c.put_byte.ensures.holds ∙ ap (over c.args.out.now) (sym one);
    }

pub returns : goal.returns
returns t c =
    let n = c.args.n in
    let long = longer n (omega arith) c.if-n-lt10.false in
    record {
      size = omega (arith, long, c.put_number-k.ensures.size);
      few = omega (arith, long, few n (omega arith), c.put_number-k.ensures.size);
      holds = over_rest c.args.out.now c.put_number-k.new.out (decimal (n / 10)) ((48 + n % 10) ∷ []) c.put_byte-2.new.out c.min-from.result c.put_number-k.ensures.holds (omega (arith, c.min-from.ensures, c.put_number-k.ensures.size)) c.put_byte-2.ensures.holds ∙ ap (over c.args.out.now) (sym (split n (omega arith) c.if-n-lt10.false));
    }
