-- Texts written one behind another.
use Rattle.std.proofs.Common.{◌≡◌, ℕ, ◌^◌, ◌<◌, ◌≤◌, min, List, [], ◌++◌, length, take, drop, sym, refl, ap, ◌∙◌, arith}
use Rattle.std.specs.Borrow.{MutBor}
use Rattle.std.specs.Fn.{Shared}
use Rattle.std.proofs.lemmas.List.{append-nil, append_assoc, length-append, take_all}
use Rattle.std.proofs.lemmas.Bool.Decides.{nat_tests}
use Rattle.lex.specs.Written.{over}
use Rattle.grammar.specs.Forms.{escape}
use Rattle.lex.proofs.Overs.{length_over, over-over}
use Rattle.printer.specs.Writes.{Puts, Adds, Behind}
use Rattle.printer.specs.Output.{Writes}
use Rattle.printer.specs.declared.pieces.Output.{Output}

-- a count that needs no bound
exact : {t out out' : List ℕ} {r : ℕ} → r ≡ length t → length t < 2 ^ 64 → out' ≡ over out t → Puts t out out' r
exact e small h = record { count = omega arith; holds = h }

-- what a call wrote into the rest of the buffer
pub adds_behind : {F : Type 0} {g : Shared F (MutBor (List ℕ) × Unit {0}) (ℕ × (MutBor (List ℕ) × Unit {0}))} {f : F} {out out' : List ℕ} {at n : ℕ} (t : List ℕ) (b : Behind g f out at out' n) → Puts t b.shown.now b.left.now b.result → Adds t out at out' n
adds_behind {out = out} {at = at} t b p =
    let from = min at (length out) in
    record {
      count = omega (arith, b.count, p.count);
      holds = λ o s h c. b.holds ∙ ap (λ w. take from out ++ w) p.holds ∙ ap (λ w. take from out ++ over w t) b.shows ∙ ap (λ w. take from w ++ over (drop from w) t) h ∙ over-over o s t from (omega (arith, b.small, ap length h, length_over o s));
    }

-- one text and then another
pub adds_then : (t u : List ℕ) {out out' out'' : List ℕ} {at n r : ℕ} → Adds t out at out' n → Adds u out' n out'' r → Adds (t ++ u) out at out'' r
adds_then t u {at = at} {n = n} a b =
    record {
      count = omega (arith, a.count, b.count, length-append t u);
      holds = λ o s h c.
          b.holds o (s ++ t) (a.holds o s h c) (omega (arith, a.count, length-append s t)) ∙ ap (over o) (append_assoc s t u);
    }

pub adds_none : (out : List ℕ) (at : ℕ) → at < 2 ^ 64 → Adds [] out at out at
adds_none out at small = record { count = omega arith; holds = λ o s h c. h ∙ ap (over o) (sym (append-nil s)) }

-- nothing over the front of a buffer
over-nil : (o : List ℕ) → over o [] ≡ o
unfolding over
over-nil o = take_all (length o) o (omega arith)

-- from the buffer's start
pub puts_from : (t : List ℕ) {out out' : List ℕ} {r : ℕ} → Adds t out 0 out' r → Puts t out out' r
puts_from t {out} a = record { count = omega (arith, a.count); holds = a.holds out [] (sym (over-nil out)) (omega arith) }

pub escape-few : (b : ℕ) → length (escape b) ≤ 2
escape-few b = grind (arith, nat_tests)

-- a text over the front, and then another behind it
pub puts_then : (t u : List ℕ) {out out' out'' : List ℕ} {n r : ℕ} → Puts t out out' n → Adds u out' n out'' r → Puts (t ++ u) out out'' r
puts_then t u {out} a b =
    record {
      count = omega (arith, a.count, b.count, length-append t u);
      holds = b.holds out t a.holds a.count;
    }

-- one piece, as it was written into the rest of the buffer
pub writes_behind : {F : Type 0} {g : Shared F (MutBor (List ℕ) × Unit {0}) (ℕ × (MutBor (List ℕ) × Unit {0}))} {f : F} {o o' : Output} (t : List ℕ) (b : Behind g f o.out.now o.n o'.out.now o'.n) → o'.out.ghost_name ≡ o.out.ghost_name → length t < 2 ^ 64 → b.result ≡ length t → b.left.now ≡ over b.shown.now t → Writes t o o'
writes_behind t b same small size holds = record { adds = λ _. adds_behind t b (exact size small holds); memory = same }

-- one piece and then another
pub writes_then : (t u : List ℕ) {a b c : Output} → Writes t a b → Writes u b c → Writes (t ++ u) a c
writes_then t u v w = record { adds = λ h. adds_then t u (v.adds h) (w.adds (omega (arith, (v.adds h).count))); memory = w.memory ∙ v.memory }

pub writes_none : (o : Output) → Writes [] o o
writes_none o = record { adds = adds_none o.out.now o.n; memory = refl }
