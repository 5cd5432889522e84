-- Laws of the walk for those who use it: what stays, what is logged, and when there is no room.
use Rattle.std.proofs.Common.{◌≡◌, ℕ, suc, ◌+◌, ◌<◌, ◌≤◌, List, ◌++◌, length, Some, Ok, Err, Option, Result, sym, refl, ap, ◌∙◌, subst, arith}
use Rattle.std.proofs.lemmas.List.{append-nil, append_assoc}
use Rattle.tables.specs.declared.fault.Fault.{Fault}
use Rattle.tables.specs.declared.fault.Fault.TheVariants.{TooLarge}
use Rattle.tables.specs.declared.node.Node.{Node}
use Rattle.walk.specs.declared.visit.Step.{Step}
use Rattle.walk.specs.declared.visit.Step.TheVariants.{Into, Past}
use Rattle.walk.specs.Calls.{Enters, Leaves}
use Rattle.walk.specs.Trees.{Tree, Forest, flat}
use Rattle.walk.specs.Shown.{Shown, Showns, refused, past, large, below, whole, none, stops, goes, Went, still, comes, parts}
use Rattle.walk.specs.Logs.{inside, log, logs, counts, most, mosts}

-- what each call keeps, the walk keeps
pub record Stays {S : Type 0} (enters : Enters S) (leaves : Leaves S) (nodes : List Node) (P : S → Type 0) : Type 0 where
  pub entered : {s s' : S} {at : ℕ} {above : Option ℕ} {a : Result Step Fault} → enters s nodes at above a s' → P s → P s'
  pub left : {s s' : S} {at : ℕ} {a : Result (Unit {0}) Fault} → leaves s nodes at a s' → P s → P s'

pub kept : {S : Type 0} {enters : Enters S} {leaves : Leaves S} {nodes : List Node} {s s' : S} (P : S → Type 0) → Stays enters leaves nodes P → Went enters leaves nodes s s' → P s → P s'
kept P k still p = p
kept P k (comes w x) p = k.entered x (kept P k w p)
kept P k (parts w x) p = k.left x (kept P k w p)

-- a visitor that keeps a log, and whose way the table alone tells; `view` is what it has logged in a state
pub record Keeps {S X : Type 0} (enters : Enters S) (leaves : Leaves S) (nodes : List Node) (way : ℕ → Option ℕ → Step) (first : ℕ → Option ℕ → List X) (last : ℕ → List X) (view : S → List X) : Type 0 where
  pub answers : {s s' : S} {at : ℕ} {above : Option ℕ} {a : Step} → enters s nodes at above (Ok a) s' → a ≡ way at above
  pub adds : {s s' : S} {at : ℕ} {above : Option ℕ} {a : Step} → enters s nodes at above (Ok a) s' → view s' ≡ view s ++ first at above
  pub ends : {s s' : S} {at : ℕ} → leaves s nodes at (Ok tt) s' → view s' ≡ view s ++ last at

module _ {S X : Type 0} (enters : Enters S) (leaves : Leaves S) (nodes : List Node) (room : ℕ) (way : ℕ → Option ℕ → Step) (first : ℕ → Option ℕ → List X) (last : ℕ → List X) (view : S → List X) (keeps : Keeps enters leaves nodes way first last view) where
  mutual
    pub logged_one : {t : Tree} {at held : ℕ} {above : Option ℕ} {s s' : S} → Shown enters leaves nodes room t at above held s (Ok tt) s' → view s' ≡ view s ++ log way first last t at above
    logged_one (past {c = c} {at = at} {above = above} {s = s} x) =
        keeps.adds x ∙ ap (λ xs. view s ++ xs) (sym (append-nil (first at above)) ∙ ap (λ w. first at above ++ inside w (logs way first last c (at + 1) (Some at) ++ last at)) (keeps.answers x))
    logged_one (whole {c = c} {at = at} {above = above} {s = s} x fits r e) =
        let below = logs way first last c (at + 1) (Some at) in
        keeps.ends e ∙ ap (λ xs. xs ++ last at) (logged r ∙ ap (λ xs. xs ++ below) (keeps.adds x)) ∙ ap (λ xs. xs ++ last at) (append_assoc (view s) (first at above) below) ∙ append_assoc (view s) (first at above ++ below) (last at) ∙ ap (λ xs. view s ++ xs) (append_assoc (first at above) below (last at) ∙ ap (λ w. first at above ++ inside w (below ++ last at)) (keeps.answers x))

    pub logged : {f : Forest} {at held : ℕ} {above : Option ℕ} {s s' : S} → Showns enters leaves nodes room f at above held s (Ok tt) s' → view s' ≡ view s ++ logs way first last f at above
    logged (none {s = s}) = sym (append-nil (view s))
    logged (goes {t = t} {f = f} {at = at} {above = above} {s = s} x r) =
        let one = log way first last t at above in
        let rest = logs way first last f (at + length (flat t)) above in
        logged r ∙ ap (λ xs. xs ++ rest) (logged_one x) ∙ append_assoc (view s) one rest

ok_same : {X : Type 0} {x y : X} → ◌≡◌ {A = Result X Fault} (Ok x) (Ok y) → x ≡ y
ok_same p = cc

no_err : {X : Type 0} {x : X} {e : Fault} → ◌≡◌ {A = Result X Fault} (Err e) (Ok x) → ⊥
no_err p = let z : ◌≡◌ {A = ℕ} 0 1 = cc in omega arith

-- a visitor that refuses nothing, and whose way the table alone tells
pub record Sure {S : Type 0} (enters : Enters S) (leaves : Leaves S) (nodes : List Node) (way : ℕ → Option ℕ → Step) : Type 0 where
  pub answers : {s s' : S} {at : ℕ} {above : Option ℕ} {a : Result Step Fault} → enters s nodes at above a s' → a ≡ Ok (way at above)
  pub ends : {s s' : S} {at : ℕ} {a : Result (Unit {0}) Fault} → leaves s nodes at a s' → a ≡ Ok tt

module _ {S : Type 0} (enters : Enters S) (leaves : Leaves S) (nodes : List Node) (room : ℕ) (way : ℕ → Option ℕ → Step) (sure : Sure enters leaves nodes way) where
  mutual
    -- the walk is not refused only if there is room for all that are open at once
    pub fits_one : {t : Tree} {at held : ℕ} {above : Option ℕ} {s s' : S} → Shown enters leaves nodes room t at above held s (Ok tt) s' → held ≤ room → held + most way t at above ≤ room
    fits_one (past {c = c} {at = at} {held = held} {above = above} x) le =
        let w : Past ≡ way at above = ok_same (sure.answers x) in
        subst (λ w. held + counts w (suc (mosts way c (at + 1) (Some at))) ≤ room) w (omega arith)
    fits_one (whole {c = c} {at = at} {held = held} {above = above} x lt r l) le =
        let w : Into ≡ way at above = ok_same (sure.answers x) in
        let h : suc held + mosts way c (at + 1) (Some at) ≤ room = fits r (omega arith) in
        subst (λ w. held + counts w (suc (mosts way c (at + 1) (Some at))) ≤ room) w (omega arith)

    pub fits : {f : Forest} {at held : ℕ} {above : Option ℕ} {s s' : S} → Showns enters leaves nodes room f at above held s (Ok tt) s' → held ≤ room → held + mosts way f at above ≤ room
    fits none le = omega arith
    fits (goes x r) le = omega (arith, fits_one x le, fits r le)

  mutual
    -- it is refused only for want of room
    pub full_one : {t : Tree} {at held : ℕ} {above : Option ℕ} {s s' : S} {e : Fault} → Shown enters leaves nodes room t at above held s (Err e) s' → (e ≡ TooLarge) × (room < held + most way t at above)
    full_one (refused x) = absurd (no_err (sure.answers x))
    full_one (large {c = c} {at = at} {held = held} {above = above} x many) =
        let w : Into ≡ way at above = ok_same (sure.answers x) in
        (refl, subst (λ w. room < held + counts w (suc (mosts way c (at + 1) (Some at)))) w (omega arith))
    full_one (below {c = c} {at = at} {held = held} {above = above} x lt r) =
        let w : Into ≡ way at above = ok_same (sure.answers x) in
        let h = full r in
        (h.0, subst (λ w. room < held + counts w (suc (mosts way c (at + 1) (Some at)))) w (omega (arith, h.1)))
    full_one (whole x lt r l) = absurd (no_err (sure.ends l))

    pub full : {f : Forest} {at held : ℕ} {above : Option ℕ} {s s' : S} {e : Fault} → Showns enters leaves nodes room f at above held s (Err e) s' → (e ≡ TooLarge) × (room < held + mosts way f at above)
    full (stops x) = let h = full_one x in (h.0, omega (arith, h.1))
    full (goes x r) = let h = full r in (h.0, omega (arith, h.1))
