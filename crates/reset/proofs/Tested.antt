-- A visitor that goes into every node and notes whether some node passes a test: what it has noted after a walk.
use Rattle.std.proofs.Common.{◌≡◌, ℕ, ◌+◌, Bool, true, false, ◌||◌, List, [], ◌∷◌, ◌++◌, length, get_or, drop, Ok, Option, Result, sym, refl, ap, ◌∙◌, append_assoc, add-zero, arith}
use Rattle.std.proofs.lemmas.List.{get_or-drop, drop-drop, drop_at}
use Rattle.tables.specs.declared.fault.Fault.{Fault}
use Rattle.tables.specs.declared.node.Node.{Node}
use Rattle.walk.specs.declared.visit.Step.{Step}
use Rattle.walk.specs.declared.visit.Step.TheVariants.{Into, Past}
use Rattle.walk.specs.Calls.{Enters, Leaves}
use Rattle.tables.specs.Modules.{node_at, void}
use Rattle.walk.specs.Shown.{Shown, Showns, past, whole, none, goes}
use Rattle.walk.specs.Trees.{Tree, Forest, flat, flats}
use Rattle.reset.specs.Resets.{any}

or_assoc : (a b c : Bool) → ((a || b) || c) ≡ (a || (b || c))
or_assoc true b c = refl
or_assoc false b c = refl

or_false : (a : Bool) → a ≡ (a || false)
or_false true = refl
or_false false = refl

pub any_append : {X : Type 0} (p : X → Bool) (xs ys : List X) → any p (xs ++ ys) ≡ (any p xs || any p ys)
any_append p [] ys = refl
any_append p (x ∷ xs) ys = ap (λ b. p x || b) (any_append p xs ys) ∙ sym (or_assoc (p x) (any p xs) (any p ys))

-- the node at a place, and what follows it
head : (nodes : List Node) (at : ℕ) (x : Node) (xs : List Node) → drop at nodes ≡ x ∷ xs → node_at nodes at ≡ x
head nodes at x xs e = ap (λ k. get_or nodes k void) (sym (add-zero at)) ∙ sym (get_or-drop at nodes 0 void) ∙ ap (λ l. get_or l 0 void) e

tail : (nodes : List Node) (at : ℕ) (x : Node) (xs : List Node) → drop at nodes ≡ x ∷ xs → drop (at + 1) nodes ≡ xs
tail nodes at x xs e = sym (drop-drop 1 at nodes) ∙ ap (drop 1) e

not_past : ◌≡◌ {A = Result Step Fault} (Ok Past) (Ok Into) → ⊥
not_past p = let z : ◌≡◌ {A = ℕ} 0 1 = cc in omega arith

pub record Tests {S : Type 0} (enters : Enters S) (leaves : Leaves S) (nodes : List Node) (keeps : S → Type 0) (view : S → Bool) (test : Node → Bool) : Type 0 where
  pub into : {s s' : S} {at : ℕ} {above : Option ℕ} {a : Result Step Fault} → enters s nodes at above a s' → a ≡ Ok Into
  pub kept : {s s' : S} {at : ℕ} {above : Option ℕ} {a : Result Step Fault} → enters s nodes at above a s' → keeps s → keeps s'
  pub adds : (s : S) (at : ℕ) {s' : S} {above : Option ℕ} {a : Result Step Fault} → enters s nodes at above a s' → keeps s → view s' ≡ (view s || test (node_at nodes at))
  pub same : {s s' : S} {at : ℕ} {a : Result (Unit {0}) Fault} → leaves s nodes at a s' → s' ≡ s

module _ {S : Type 0} {enters : Enters S} {leaves : Leaves S} {nodes : List Node} {room : ℕ} (keeps : S → Type 0) (view : S → Bool) (test : Node → Bool) (k : Tests enters leaves nodes keeps view test) where
  mutual
    pub tested_one : {t : Tree} {at held : ℕ} {above : Option ℕ} {s s' : S} (rest : List Node) → Shown enters leaves nodes room t at above held s (Ok tt) s' → drop at nodes ≡ flat t ++ rest → keeps s → keeps s' × (view s' ≡ (view s || any test (flat t)))
    tested_one rest (past x) e h = absurd (not_past (k.into x))
    tested_one rest (whole {l = l} {c = c} {at = at} {s = s} {s₁ = s₁} {s₂ = s₂} x lt r y) e h =
        let below = tested rest r (tail nodes at _ (flats c ++ rest) e) (k.kept x h) in
        let last = k.same y in
        let here = k.adds s at x h ∙ ap (λ n. view s || test n) (head nodes at _ (flats c ++ rest) e) in
        (rw last below.0, ap view last ∙ below.1 ∙ ap (λ b. b || any test (flats c)) here ∙ or_assoc (view s) _ (any test (flats c)))

    pub tested : {f : Forest} {at held : ℕ} {above : Option ℕ} {s s' : S} (rest : List Node) → Showns enters leaves nodes room f at above held s (Ok tt) s' → drop at nodes ≡ flats f ++ rest → keeps s → keeps s' × (view s' ≡ (view s || any test (flats f)))
    tested rest (none {s = s}) e h = (h, or_false (view s))
    tested rest (goes {t = t} {f = f} {at = at} {s = s} x r) e h =
        let whole' = e ∙ append_assoc (flat t) (flats f) rest in
        let one = tested_one (flats f ++ rest) x whole' h in
        let more = tested rest r (sym (drop-drop (length (flat t)) at nodes) ∙ ap (drop (length (flat t))) whole' ∙ drop_at (flat t) (flats f ++ rest) (length (flat t)) refl) one.0 in
        (more.0, more.1 ∙ ap (λ b. b || any test (flats f)) one.1 ∙ or_assoc (view s) (any test (flat t)) (any test (flats f)) ∙ ap (λ b. view s || b) (sym (any_append test (flat t) (flats f))))
