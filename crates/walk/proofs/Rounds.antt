-- The walk shows trees: at each turn, what is left to show completes what was shown.
use Rattle.std.proofs.Common.{◌≡◌, ℕ, suc, ◌+◌, ◌-◌, ◌^◌, ◌<◌, ◌≤◌, min, List, [], ◌∷◌, ◌++◌, length, drop, Some, None, Ok, Err, Option, Result, sym, refl, ap, ◌∙◌, subst, arith}
use Rattle.std.proofs.lemmas.List.{drop_more, length-drop, length-append, length_push, append_assoc, drop_at, drop-drop, same_from_push}
use Rattle.tables.specs.declared.fault.Fault.{Fault}
use Rattle.tables.specs.declared.fault.Fault.TheVariants.{TooLarge}
use Rattle.tables.specs.declared.node.Node.{Node}
use Rattle.walk.specs.declared.visit.Step.TheVariants.{Into, Past}
use Rattle.walk.specs.Calls.{Enters, Leaves}
use Rattle.tables.specs.Modules.{void, node_at, next_at}
use Rattle.walk.specs.Trees.{Label, Tree, node, Forest, nil, cons, flat, flats}
use Rattle.walk.specs.Shown as shown
use Rattle.walk.specs.Shown.{Shown, Showns, Went}
use Rattle.walk.specs.Turns as turns
use Rattle.walk.specs.Turns.{Closed, Entered}

-- the open nodes, each with the trees that stand behind it
pub data Frames : Type 0 where
  bare : Frames
  under : Frames → ℕ → Forest → Frames

abbrev pub numbers : Frames → List ℕ
numbers bare = []
numbers (under o p f) = numbers o ++ p ∷ []

abbrev pub above : Frames → Option ℕ
above bare = None
above (under o p f) = Some p

abbrev pub depth : Frames → ℕ
depth bare = 0
depth (under o p f) = suc (depth o)

numbers-long : (o : Frames) → length (numbers o) ≡ depth o
numbers-long bare = refl
numbers-long (under o p f) = omega (arith, numbers-long o, length_push (numbers o) p)

-- the trees stand in the table from `at` on
abbrev pub Stands : List Node → ℕ → List Node → Type 0
Stands nodes at row = drop at nodes ≡ row ++ drop (at + length row) nodes

stands-first : (nodes : List Node) (at : ℕ) (a b : List Node) → Stands nodes at (a ++ b) → Stands nodes at a × Stands nodes (at + length a) b
stands-first nodes at a b e =
    let whole : drop at nodes ≡ a ++ (b ++ drop (at + length (a ++ b)) nodes) = e ∙ append_assoc a b (drop (at + length (a ++ b)) nodes) in
    let rest : drop (at + length a) nodes ≡ b ++ drop (at + length (a ++ b)) nodes = sym (drop-drop (length a) at nodes) ∙ ap (drop (length a)) whole ∙ drop_at a (b ++ drop (at + length (a ++ b)) nodes) (length a) refl in
    let same : at + length (a ++ b) ≡ (at + length a) + length b = omega (arith, length-append a b) in
    (whole ∙ ap (λ x. a ++ x) (sym rest), rest ∙ ap (λ i. b ++ drop i nodes) same)

record Head (nodes : List Node) (at : ℕ) (n : Node) (below : List Node) : Type 0 where
  here : node_at nodes at ≡ n
  tail : Stands nodes (at + 1) below

head : (nodes : List Node) (at : ℕ) (n : Node) (below : List Node) → Stands nodes at (n ∷ below) → Head nodes at n below
head nodes at n below e =
    let some : at < length nodes = omega (arith, length-drop at nodes, ap length e) in
    let m = drop_more nodes at void some in
    let same : at + suc (length below) ≡ at + 1 + length below = omega arith in
    let tail : drop (at + 1) nodes ≡ below ++ drop (at + suc (length below)) nodes = cc in
    record { here = cc; tail = tail ∙ ap (λ i. below ++ drop i nodes) same }

-- where the last of the open nodes ends, and what stands behind each
abbrev pub Ends : List Node → ℕ → ℕ → Frames → Type 0
Ends nodes end stop bare = stop ≡ end
Ends nodes end stop (under o p f) = (next_at nodes p ≡ stop) × Stands nodes stop (flats f) × Ends nodes end (stop + length (flats f)) o

within : (nodes : List Node) (end stop : ℕ) (o : Frames) → Ends nodes end stop o → stop ≤ end
within nodes end stop bare e = omega arith
within nodes end stop (under o p f) e = omega (arith, within nodes end (stop + length (flats f)) o e.2)

-- the first tree of a row
record First (nodes : List Node) (end at : ℕ) (l : Label) (c f : Forest) (o : Frames) : Type 0 where
  next : next_at nodes at ≡ at + length (flat (node l c))
  below : Stands nodes (at + 1) (flats c)
  inside : Ends nodes end (at + 1 + length (flats c)) (under o at f)
  behind : Stands nodes (at + length (flat (node l c))) (flats f)
  after : Ends nodes end (at + length (flat (node l c)) + length (flats f)) o

first : (nodes : List Node) (end at : ℕ) (l : Label) (c f : Forest) (o : Frames) → Stands nodes at (flats (cons (node l c) f)) → Ends nodes end (at + length (flats (cons (node l c) f))) o → end ≤ 65536 → First nodes end at l c f o
first nodes end at l c f o s e small =
    let parts = stands-first nodes at (flat (node l c)) (flats f) s in
    let h = head nodes at _ (flats c) parts.0 in
    let long : length (flats (cons (node l c) f)) ≡ length (flat (node l c)) + length (flats f) = length-append (flat (node l c)) (flats f) in
    let top : at + length (flats (cons (node l c) f)) ≤ end = within nodes end _ o e in
    let size : (node_at nodes at).size ≡ suc (length (flats c)) = ap (λ n. n.size) h.here in
    let next : next_at nodes at ≡ at + suc (length (flats c)) = omega arith in
    let step : at + suc (length (flats c)) ≡ at + 1 + length (flats c) = omega arith in
    let after : Ends nodes end (at + suc (length (flats c)) + length (flats f)) o = subst (λ i. Ends nodes end i o) (omega arith) e in
    record {
      next = next;
      below = h.tail;
      inside = (next ∙ step, subst (λ i. Stands nodes i (flats f)) step parts.1, subst (λ i. Ends nodes end (i + length (flats f)) o) step after);
      behind = parts.1;
      after = after;
    }

some_nodes : (t : Tree) (row : Forest) → 0 < length (flats (cons t row))
some_nodes (node l c) row = omega arith

not_empty : (xs : List ℕ) (x : ℕ) → xs ++ x ∷ [] ≡ [] → ⊥
not_empty xs x e = omega (arith, ap length e, length_push xs x)

module _ {S : Type 0} (enters : Enters S) (leaves : Leaves S) (nodes : List Node) (room : ℕ) where
  -- what is left to show: the row at `at`, and then, out of each open node, what stands behind it
  pub data Rest : Forest → ℕ → Frames → S → Result (Unit {0}) Fault → S → Type 0 where
    stops : {row : Forest} {at : ℕ} {o : Frames} {s s' : S} {e : Fault} → Showns enters leaves nodes room row at (above o) (depth o) s (Err e) s' → Rest row at o s (Err e) s'
    ends : {row : Forest} {at : ℕ} {s s' : S} → Showns enters leaves nodes room row at None 0 s (Ok tt) s' → Rest row at bare s (Ok tt) s'
    refused : {row : Forest} {at : ℕ} {o : Frames} {p : ℕ} {f : Forest} {s s₁ s' : S} {e : Fault} → Showns enters leaves nodes room row at (Some p) (suc (depth o)) s (Ok tt) s₁ → leaves s₁ nodes p (Err e) s' → Rest row at (under o p f) s (Err e) s'
    goes : {row : Forest} {at : ℕ} {o : Frames} {p : ℕ} {f : Forest} {s s₁ s₂ s' : S} {a : Result (Unit {0}) Fault} → Showns enters leaves nodes room row at (Some p) (suc (depth o)) s (Ok tt) s₁ → leaves s₁ nodes p (Ok tt) s₂ → Rest f (at + length (flats row)) o s₂ a s' → Rest row at (under o p f) s a s'

  -- the first tree of a row is shown, and then the others
  step : {t : Tree} {row : Forest} {at : ℕ} {o : Frames} {s s₁ s' : S} {a : Result (Unit {0}) Fault} → Shown enters leaves nodes room t at (above o) (depth o) s (Ok tt) s₁ → Rest row (at + length (flat t)) o s₁ a s' → Rest (cons t row) at o s a s'
  step x (stops r) = stops (shown.goes x r)
  step x (ends r) = ends (shown.goes x r)
  step x (refused r l) = refused (shown.goes x r) l
  step {t} {row} {at} x (goes {o = o} {f = f} {s₂ = s₂} {s' = s'} {a = a} r l k) =
      goes (shown.goes x r) l (subst (λ i. Rest f i o s₂ a s') (omega (arith, length-append (flat t) (flats row))) k)

  -- the row below a node that was entered
  into : {l : Label} {c row : Forest} {at : ℕ} {o : Frames} {s s₁ s' : S} {a : Result (Unit {0}) Fault} → enters s nodes at (above o) (Ok Into) s₁ → depth o < room → Rest c (at + 1) (under o at row) s₁ a s' → Rest (cons (node l c) row) at o s a s'
  into x fits (stops r) = stops (shown.stops (shown.below x fits r))
  into x fits (refused r l) = stops (shown.stops (shown.whole x fits r l))
  into {c = c} {row = row} {at = at} {o = o} x fits (goes {s₂ = s₂} {s' = s'} {a = a} r l k) =
      step (shown.whole x fits r l) (subst (λ i. Rest row i o s₂ a s') (omega arith) k)

  module _ (end : ℕ) (f₀ : Forest) (from : ℕ) (s₀ : S) where
    -- before a turn
    pub record Left (s : S) (at : ℕ) (held : List ℕ) : Type 0 where
      row : Forest
      o : Frames
      is : held ≡ numbers o
      stands : Stands nodes at (flats row)
      ends : Ends nodes end (at + length (flats row)) o
      gives : (a : Result (Unit {0}) Fault) (s' : S) → Rest row at o s a s' → Showns enters leaves nodes room f₀ from None 0 s₀ a s'

    -- in a turn, once the nodes that end are left: `top` is the one that is still open
    pub record Ready (s : S) (at : ℕ) (held : List ℕ) (top : Option ℕ) : Type 0 where
      left : Left s at held
      below : top ≡ above left.o
      some : at < end → 0 < length (flats left.row)
      over : end ≤ at → Rest left.row at left.o s (Ok tt) s

    -- what a turn's two parts come to: the walk goes on, or the refusal is its answer
    abbrev pub Leaving : (at : ℕ) → Result (Option ℕ) Fault → List ℕ → S → Type 0
    Leaving at (Ok top) held s = Ready s at held top
    Leaving at (Err e) held s = Showns enters leaves nodes room f₀ from None 0 s₀ (Err e) s

    abbrev pub Entering : Result ℕ Fault → List ℕ → S → Type 0
    Entering (Ok at) held s = Left s at held
    Entering (Err e) held s = Showns enters leaves nodes room f₀ from None 0 s₀ (Err e) s

    pub closed : {at : ℕ} {held held' : List ℕ} {s s' : S} {r : Result (Option ℕ) Fault} → Closed leaves nodes at held s r held' s' → (row : Forest) (o : Frames) → held ≡ numbers o → Stands nodes at (flats row) → Ends nodes end (at + length (flats row)) o → ((a : Result (Unit {0}) Fault) (s'' : S) → Rest row at o s a s'' → Showns enters leaves nodes room f₀ from None 0 s₀ a s'') → Leaving at r held' s'
    closed (turns.empty e) row (under o p f) is st en gives = absurd (not_empty (numbers o) p (sym is ∙ e))
    closed (turns.empty e) nil bare is st en gives =
        record {
          left = record { row = nil; o = bare; is = is; stands = st; ends = en; gives = gives };
          below = refl;
          some = λ lt. omega arith;
          over = λ le. ends shown.none;
        }
    closed (turns.empty e) (cons t row) bare is st en gives =
        record {
          left = record { row = cons t row; o = bare; is = is; stands = st; ends = en; gives = gives };
          below = refl;
          some = λ lt. some_nodes t row;
          over = λ le. absurd (omega (arith, some_nodes t row));
        }
    closed (turns.stays u top e lt) row bare is st en gives = absurd (not_empty u top (sym e ∙ is))
    closed {at} (turns.stays u top e lt) row (under o p f) is st en gives =
        let q = (same_from_push u (numbers o) top p (sym e ∙ is)).1 in
        let next : next_at nodes top ≡ at + length (flats row) = ap (next_at nodes) q ∙ en.0 in
        record {
          left = record { row = row; o = under o p f; is = is; stands = st; ends = en; gives = gives };
          below = ap Some q;
          some = λ _. omega arith;
          over = λ le. absurd (omega (arith, within nodes end (at + length (flats row)) (under o p f) en));
        }
    closed (turns.refused u top e le l) row bare is st en gives = absurd (not_empty u top (sym e ∙ is))
    closed {s = s} {s' = s'} (turns.refused {e = fault} u top e le l) nil (under o p f) is st en gives =
        let q = (same_from_push u (numbers o) top p (sym e ∙ is)).1 in
        gives (Err fault) s' (refused shown.none (subst (λ n. leaves s nodes n (Err fault) s') q l))
    closed {at} (turns.refused u top e le l) (cons t row) (under o p f) is st en gives =
        let q = (same_from_push u (numbers o) top p (sym e ∙ is)).1 in
        let next : next_at nodes top ≡ at + length (flats (cons t row)) = ap (next_at nodes) q ∙ en.0 in
        absurd (omega (arith, some_nodes t row))
    closed (turns.goes u top e le l k) row bare is st en gives = absurd (not_empty u top (sym e ∙ is))
    closed {at} {s = s} (turns.goes {s₁ = s₁} u top e le l k) nil (under o p f) is st en gives =
        let q = same_from_push u (numbers o) top p (sym e ∙ is) in
        let same : at + 0 ≡ at = omega arith in
        closed k f o q.0 (subst (λ i. Stands nodes i (flats f)) same en.1) (subst (λ i. Ends nodes end (i + length (flats f)) o) same en.2) (λ a s'' r.
        gives a s'' (goes shown.none (subst (λ n. leaves s nodes n (Ok tt) s₁) q.1 l) (subst (λ i. Rest f i o s₁ a s'') (sym same) r)))
    closed {at} (turns.goes u top e le l k) (cons t row) (under o p f) is st en gives =
        let q = (same_from_push u (numbers o) top p (sym e ∙ is)).1 in
        let next : next_at nodes top ≡ at + length (flats (cons t row)) = ap (next_at nodes) q ∙ en.0 in
        absurd (omega (arith, some_nodes t row))

    pub close_left : {at : ℕ} {held held' : List ℕ} {s s' : S} {r : Result (Option ℕ) Fault} → Left s at held → Closed leaves nodes at held s r held' s' → Leaving at r held' s'
    close_left b c = closed c b.row b.o b.is b.stands b.ends b.gives

    entered : {at : ℕ} {held held' : List ℕ} {top : Option ℕ} {s s' : S} {r : Result ℕ Fault} → Entered enters nodes room at top held s r held' s' → (row : Forest) (o : Frames) → held ≡ numbers o → Stands nodes at (flats row) → Ends nodes end (at + length (flats row)) o → ((a : Result (Unit {0}) Fault) (s'' : S) → Rest row at o s a s'' → Showns enters leaves nodes room f₀ from None 0 s₀ a s'') → top ≡ above o → 0 < length (flats row) → at < end → end ≤ 65536 → Entering r held' s'
    entered x nil o is st en gives t some lt small = absurd (omega arith)
    entered {at} {s = s} {s' = s'} (turns.refused {e = e} x) (cons (node l c) row) o is st en gives t some lt small =
        gives (Err e) s' (stops (shown.stops (shown.refused (subst (λ a. enters s nodes at a (Err e) s') t x))))
    entered {at} {held} {s = s} {s' = s'} (turns.past x) (cons (node l c) row) o is st en gives t some lt small =
        let h = first nodes end at l c row o st en small in
        subst (λ i. Left s' i held) (sym h.next) (record {
          row = row;
          o = o;
          is = is;
          stands = h.behind;
          ends = h.after;
          gives = λ a s'' r. gives a s'' (step (shown.past (subst (λ a. enters s nodes at a (Ok Past) s') t x)) r);
        })
    entered {at} {s = s} {s' = s'} (turns.large x full) (cons (node l c) row) o is st en gives t some lt small =
        gives (Err TooLarge) s' (stops (shown.stops (shown.large (subst (λ a. enters s nodes at a (Ok Into) s') t x) (omega (arith, ap length is, numbers-long o)))))
    entered {at} {held} {s = s} {s' = s'} (turns.into x fits) (cons (node l c) row) o is st en gives t some lt small =
        let h = first nodes end at l c row o st en small in
        let same : min at 65535 ≡ at = omega arith in
        let fits' : depth o < room = omega (arith, ap length is, numbers-long o) in
        record {
          row = c;
          o = under o at row;
          is = ap (λ n. held ++ n ∷ []) same ∙ ap (λ ns. ns ++ at ∷ []) is;
          stands = h.below;
          ends = h.inside;
          gives = λ a s'' r. gives a s'' (into (subst (λ a. enters s nodes at a (Ok Into) s') t x) fits' r);
        }

    pub enter_ready : {at size : ℕ} {held held' : List ℕ} {top : Option ℕ} {s s' : S} {r : Result ℕ Fault} → Ready s at held top → at < end → end ≤ 65536 → size ≡ room → Entered enters nodes size at top held s r held' s' → Entering r held' s'
    enter_ready {at} {held = held} {held'} {top} {s} {s'} {r} b lt small same x =
        let y : Entered enters nodes room at top held s r held' s' = subst (λ n. Entered enters nodes n at top held s r held' s') same x in
        entered y b.left.row b.left.o b.left.is b.left.stands b.left.ends b.left.gives b.below (b.some lt) lt small

    -- nothing is open before the first turn
    pub start : (rest : List Node) (held : List ℕ) → held ≡ [] → drop from nodes ≡ flats f₀ ++ rest → end ≡ from + length (flats f₀) → Left s₀ from held
    start rest held none e long =
        record {
          row = f₀;
          o = bare;
          is = none;
          stands = e ∙ ap (λ r. flats f₀ ++ r) (sym (sym (drop-drop (length (flats f₀)) from nodes) ∙ ap (drop (length (flats f₀))) e ∙ drop_at (flats f₀) rest (length (flats f₀)) refl));
          ends = sym long;
          gives = λ a s' r. alone r;
        }
      where
        alone : {s' : S} {a : Result (Unit {0}) Fault} → Rest f₀ from bare s₀ a s' → Showns enters leaves nodes room f₀ from None 0 s₀ a s'
        alone (stops r) = r
        alone (ends r) = r

    -- the table is walked to its end, and nothing is open after the last turn
    pub at_end : {at : ℕ} {held : List ℕ} {s : S} → Left s at held → end ≤ at → Left s end held
    at_end {at} {held} {s} b le =
        let same : at ≡ end = omega (arith, within nodes end (at + length (flats b.row)) b.o b.ends) in
        subst (λ i. Left s i held) same b

    pub finish : {held : List ℕ} {top : Option ℕ} {s : S} → Ready s end held top → Showns enters leaves nodes room f₀ from None 0 s₀ (Ok tt) s
    finish {s = s} b = b.left.gives (Ok tt) s (b.over (omega arith))

-- a turn goes on
abbrev Later : ℕ → Result ℕ Fault → Type 0
Later at (Ok next) = at < next
Later at (Err e) = Unit {0}

pub later : {S : Type 0} {enters : Enters S} {nodes : List Node} {room at : ℕ} {top : Option ℕ} {held held' : List ℕ} {s s' : S} {r : Result ℕ Fault} → Entered enters nodes room at top held s r held' s' → at < 2 ^ 64 - 1 → Later at r
later (turns.refused x) h = tt
later (turns.past x) h = omega arith
later (turns.large x full) h = tt
later (turns.into x fits) h = omega arith

-- each turn changes the visitor by calls alone
module _ {S : Type 0} {enters : Enters S} {leaves : Leaves S} {nodes : List Node} where
  pub went_close : {at : ℕ} {held held' : List ℕ} {s₀ s s' : S} {r : Result (Option ℕ) Fault} → Went enters leaves nodes s₀ s → Closed leaves nodes at held s r held' s' → Went enters leaves nodes s₀ s'
  went_close w (turns.empty e) = w
  went_close w (turns.stays u top e lt) = w
  went_close w (turns.refused u top e le l) = shown.parts w l
  went_close w (turns.goes u top e le l k) = went_close (shown.parts w l) k

  pub went_enter : {room at : ℕ} {top : Option ℕ} {held held' : List ℕ} {s₀ s s' : S} {r : Result ℕ Fault} → Went enters leaves nodes s₀ s → Entered enters nodes room at top held s r held' s' → Went enters leaves nodes s₀ s'
  went_enter w (turns.refused x) = shown.comes w x
  went_enter w (turns.past x) = shown.comes w x
  went_enter w (turns.large x full) = shown.comes w x
  went_enter w (turns.into x fits) = shown.comes w x
