-- The automaton from one token of a text to the next.
use Rattle.std.proofs.Common.{◌≡◌, ℕ, ◌+◌, ◌<◌, List, ◌∷◌, length, drop, sym, refl, ap, ◌∙◌, subst, arith}
use Rattle.tables.specs.declared.fault.Fault.{Fault}
use Rattle.lex.specs.Tokens.{Tok, opens, closes, blank, feed, run, end, foul, size, token_at}
use Rattle.lex.specs.Texts.{then, tokens}
use Rattle.lex.specs.declared.token.Reader.{Reader}
use Rattle.lex.proofs.Texts.{tokens_at}
use Rattle.reader.specs.declared.mode.Mode.{Mode}
use Rattle.reader.specs.Machine.{State, Step, go, done, stop, step, step_by, accepted, refused, onward, goes}

-- at the end the reader never goes on
not_on_end : (d limit : ℕ) (m : Mode) (s s' : State) (p : ℕ) → step_by d limit m s p end ≡ go s' → ⊥
not_on_end d limit Mode.First s s' p e = cc
not_on_end d limit (Mode.Word r) s s' p e = cc
not_on_end d limit (Mode.Gap f r) s s' p e = cc
not_on_end d limit (Mode.Said f r) s s' p e = cc
not_on_end d limit (Mode.Parts r) s s' p e = cc
not_on_end d limit (Mode.Part r) s s' p e = cc
not_on_end d limit Mode.Line s s' p e = cc
not_on_end d limit Mode.Items s s' p e = cc

-- a token with unlawful bytes is refused wherever it stands
pub foul-stops : (d limit : ℕ) (m : Mode) (s : State) (p : ℕ) → step_by d limit m s p foul ≡ stop (Fault.Unlawful p)
foul-stops d limit Mode.First s p = refl
foul-stops d limit (Mode.Word r) s p = refl
foul-stops d limit (Mode.Gap f r) s p = refl
foul-stops d limit (Mode.Said f r) s p = refl
foul-stops d limit (Mode.Parts r) s p = refl
foul-stops d limit (Mode.Part r) s p = refl
foul-stops d limit Mode.Line s p = refl
foul-stops d limit Mode.Items s p = refl

-- where the reader goes on, there are tokens after this one
pub followed : (d limit : ℕ) (s s' : State) (p : ℕ) (t : Tok) (ts : List (ℕ × Tok)) → step d limit s p t ≡ go s' → then t ts ≡ ts
followed d limit s s' p opens ts e = refl
followed d limit s s' p closes ts e = refl
followed d limit s s' p blank ts e = refl
followed d limit s s' p feed ts e = refl
followed d limit s s' p (run bs) ts e = refl
followed d limit s s' p end ts e = absurd (not_on_end d limit s.mode s s' p e)
followed d limit s s' p foul ts e = cc (foul-stops d limit s.mode s p)

-- what is left of a text
abbrev pub left : List ℕ → Reader → List (ℕ × Tok)
left form r = tokens r.at (drop r.at form)

-- a token was read
pub record Turn (form : List ℕ) (r r' : Reader) (p : ℕ) (t : Tok) : Type 0 where
  pub text : r.text.now ≡ form
  pub place : p ≡ r.at
  pub token : t ≡ token_at r.text.now r.at
  pub next : r'.at ≡ r.at + size (token_at r.text.now r.at)

module _ {form : List ℕ} {r r' : Reader} {p : ℕ} {t : Tok} (u : Turn form r r' p t) where
  here : left form r ≡ (p, t) ∷ then t (left form r')
  here =
      subst (λ x. tokens r.at (drop r.at x) ≡ (r.at, t) ∷ then t (tokens r'.at (drop r'.at x))) u.text (tokens_at r.text.now r.at r'.at t u.token u.next)
      ∙ ap (λ k. (k, t) ∷ then t (left form r')) (sym u.place)

  -- what the step there leads to
  stepped : (d limit : ℕ) (s : State) (x : Step) → x ≡ step d limit s p t → goes d limit s (left form r) ≡ onward x (λ s'. goes d limit s' (then t (left form r')))
  stepped d limit s x e = ap (goes d limit s) here ∙ ap (λ y. onward y (λ s'. goes d limit s' (then t (left form r')))) (sym e)

  pub turn_on : (d limit : ℕ) (s s' : State) → go s' ≡ step d limit s p t → goes d limit s' (left form r') ≡ goes d limit s (left form r)
  turn_on d limit s s' e = sym (stepped d limit s (go s') e ∙ ap (goes d limit s') (followed d limit s s' p t (left form r') (sym e)))

  pub turn_less : (d limit : ℕ) (s s' : State) → go s' ≡ step d limit s p t → length (left form r') < length (left form r)
  turn_less d limit s s' e = omega (arith, ap length (here ∙ ap (λ ts. (p, t) ∷ ts) (followed d limit s s' p t (left form r') (sym e))))

  pub turn_stop : (d limit : ℕ) (s : State) (f : Fault) → stop f ≡ step d limit s p t → refused f ≡ goes d limit s (left form r)
  turn_stop d limit s f e = sym (stepped d limit s (stop f) e)

  pub turn_done : (d limit : ℕ) (s s' : State) → done s' ≡ step d limit s p t → accepted s' ≡ goes d limit s (left form r)
  turn_done d limit s s' e = sym (stepped d limit s (done s') e)

pub turn_foul : {form : List ℕ} {r r' : Reader} {p : ℕ} → Turn form r r' p foul → (d limit : ℕ) (s : State) (f : Fault) → f ≡ Fault.Unlawful p → refused f ≡ goes d limit s (left form r)
turn_foul {form} {r} {r'} {p} u d limit s f is = turn_stop u d limit s f (ap stop is ∙ sym (foul-stops d limit s.mode s p))
