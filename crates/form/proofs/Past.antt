-- Reading tokens without regard to their places: a step that goes on does not depend on the place.
use Rattle.std.proofs.Common.{◌≡◌, ℕ, List, [], ◌∷◌, ◌++◌, Some, None, Option, refl, ap, ◌∙◌, arith}
use Rattle.lex.specs.Tokens.{Tok}
use Rattle.reader.specs.Machine.{State, Step, go, done, stop, step}

abbrev pub passed : Step → (State → Option State) → Option State
passed (go s) f = f s
passed (done s) f = None
passed (stop e) f = None

-- the state after tokens that are all gone past
abbrev pub past : (d limit : ℕ) → State → List Tok → Option State
past d limit s [] = Some s
past d limit s (t ∷ ts) = passed (step d limit s 0 t) (λ s'. past d limit s' ts)

pub past_on : (d limit : ℕ) (s s' : State) (t : Tok) (ts : List Tok) → step d limit s 0 t ≡ go s' → past d limit s (t ∷ ts) ≡ past d limit s' ts
past_on d limit s s' t ts e = ap (λ x. passed x (λ u. past d limit u ts)) e

pub some_state : {x y : State} → ◌≡◌ {A = Option State} (Some x) (Some y) → x ≡ y
some_state p = cc

pub no_state : {x : State} → ◌≡◌ {A = Option State} None (Some x) → ⊥
no_state p = let z : ◌≡◌ {A = ℕ} 0 1 = cc in omega arith

by_step : (x y : Step) (f g : State → Option State) (o : Option State) (s' : State) → x ≡ y → passed y f ≡ Some s' → ((u : State) → y ≡ go u → f u ≡ Some s' → g u ≡ o) → passed x g ≡ o
by_step x (go u) f g o s' q p rec = ap (λ y. passed y g) q ∙ rec u refl p
by_step x (done u) f g o s' q p rec = absurd (no_state p)
by_step x (stop e) f g o s' q p rec = absurd (no_state p)

pub past-append : (d limit : ℕ) (s s' : State) (xs ys : List Tok) → past d limit s xs ≡ Some s' → past d limit s (xs ++ ys) ≡ past d limit s' ys
past-append d limit s s' [] ys e = ap (λ u. past d limit u ys) (some_state e)
past-append d limit s s' (t ∷ xs) ys e = by_step (step d limit s 0 t) (step d limit s 0 t) (λ u. past d limit u xs) (λ u. past d limit u (xs ++ ys)) (past d limit s' ys) s' refl e (λ u q p. past-append d limit u s' xs ys p)
