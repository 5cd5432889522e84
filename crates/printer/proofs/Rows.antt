-- Trees in the table, printed one after another: at each turn, what is left to print gives the whole.
use Rattle.std.proofs.Common.{◌≡◌, ℕ, suc, ◌+◌, ◌-◌, ◌^◌, ◌<◌, ◌≤◌, min, Bool, true, false, cond, List, [], ◌∷◌, ◌++◌, length, get_or, drop, Some, None, Option, sym, refl, ap, ◌∙◌, arith}
use Rattle.std.proofs.lemmas.List.{length-append, append_assoc, drop_at, drop-drop, get_or-drop}
use Rattle.std.proofs.lemmas.Bool.{cond-true, ltb-true, ltb-false}
use Rattle.tables.specs.Siblings.{Shows, more}
use Rattle.tables.specs.declared.siblings.Siblings.{Siblings}
use Rattle.tables.specs.Modules.{void, node_at, next_at}
use Rattle.tables.specs.declared.node.Node.{Node}
use Rattle.walk.specs.Trees.{Label, Tree, node, Forest, nil, cons, flat, flats}
use Rattle.grammar.specs.Forms.{written, parts, lines}
use Rattle.printer.specs.Held.{held, helds}
use Rattle.printer.specs.Writes.{Adds}

-- what is left of a form where these parts are, and of a module where these items are
abbrev pub closing : List ℕ → Forest → List ℕ
closing text row = parts (helds text row) ++ (41 ∷ [])

abbrev pub lining : List ℕ → Forest → List ℕ
lining text row = lines (helds text row)

-- the node at the front of what stands at a place, and what stands behind it
pub here : (nodes : List Node) (at : ℕ) (n : Node) (rest : List Node) → drop at nodes ≡ n ∷ rest → node_at nodes at ≡ n
here nodes at n rest e = ap (λ i. get_or nodes i void) (omega arith) ∙ sym (get_or-drop at nodes 0 void) ∙ ap (λ xs. get_or xs 0 void) e

pub behind : (nodes : List Node) (at : ℕ) (a rest : List Node) → drop at nodes ≡ a ++ rest → drop (at + length a) nodes ≡ rest
behind nodes at a rest e = sym (drop-drop (length a) at nodes) ∙ ap (drop (length a)) e ∙ drop_at a rest (length a) refl

some_of : (b : Bool) (a p : ℕ) → ◌≡◌ {A = Option ℕ} (Some p) (cond b (Some a) None) → (b ≡ true) × (p ≡ a)
some_of true a p e = (refl, cc)
some_of false a p e = absurd cc

none_of : (b : Bool) (a : ℕ) → ◌≡◌ {A = Option ℕ} None (cond b (Some a) None) → b ≡ false
none_of true a e = absurd cc
none_of false a e = refl

-- a node was shown
pub record Turns (s t : Siblings) (p : ℕ) : Type 0 where
  pub below : s.at < s.end
  pub place : p ≡ s.at
  pub table : t.nodes.now ≡ s.nodes.now
  pub last : t.end ≡ s.end
  pub next : t.at ≡ next_at s.nodes.now p

pub turned : (s t : Siblings) (p : ℕ) → Shows s (Some p) t → Turns s t p
turned s t p h =
    let q = some_of (more s) s.at p h.shown in
    record {
      below = ltb-true _ _ q.0;
      place = q.1;
      table = h.left.table;
      last = h.left.last;
      next = h.left.first ∙ cond-true _ _ _ q.0 ∙ ap (next_at s.nodes.now) (sym q.1);
    }

pub none_left : (s t : Siblings) → Shows s None t → s.end ≤ s.at
none_left s t h = ltb-false _ _ (none_of (more s) s.at h.shown)

-- between two forms of a row: `says` is what printing the trees left adds
module _ (nodes : List Node) (end : ℕ) (says : Forest → List ℕ) (whole : List ℕ) (out₀ : List ℕ) (n₀ : ℕ) where
  pub record Left (p : ℕ) (out : List ℕ) (n : ℕ) : Type 0 where
    row : Forest
    rest : List Node
    stands : drop p nodes ≡ flats row ++ rest
    ends : p + length (flats row) ≡ end
    gives : (out' : List ℕ) (r : ℕ) → Adds (says row) out n out' r → Adds whole out₀ n₀ out' r

  -- one form is printed: it ends where the next one begins, or at the end of the row
  pub turn : {p n : ℕ} {out : List ℕ} → Left p out n → p < end → end < 2 ^ 64 → (next part n' : ℕ) (out' : List ℕ) → next ≡ next_at nodes p → part ≡ min next end → ((one : Tree) (others : Forest) (rest : List Node) → drop p nodes ≡ flat one ++ rest → part ≡ p + length (flat one) → (o : List ℕ) (r : ℕ) → Adds (says others) out' n' o r → Adds (says (cons one others)) out n o r) → Left next out' n'
  turn {p} {n} {out} b lt small next part n' out' e u f = go b.row b.stands b.ends b.gives
    where
      go : (row : Forest) → drop p nodes ≡ flats row ++ b.rest → p + length (flats row) ≡ end → ((o : List ℕ) (r : ℕ) → Adds (says row) out n o r → Adds whole out₀ n₀ o r) → Left next out' n'
      go nil st en gives = absurd (omega arith)
      go (cons (node l c) others) st en gives =
          let first : List Node = flat (node l c) in
          let both : drop p nodes ≡ first ++ (flats others ++ b.rest) = st ∙ append_assoc first (flats others) b.rest in
          let size : (node_at nodes p).size ≡ suc (length (flats c)) = ap (λ m. m.size) (here nodes p _ (flats c ++ (flats others ++ b.rest)) both) in
          let long : length (flats (cons (node l c) others)) ≡ length first + length (flats others) = length-append first (flats others) in
          let on : next ≡ p + length first = omega arith in
          let to : part ≡ p + length first = omega arith in
          record {
            row = others;
            rest = b.rest;
            stands = ap (λ i. drop i nodes) on ∙ behind nodes p first (flats others ++ b.rest) both;
            ends = omega arith;
            gives = λ o r a. gives o r (f (node l c) others (flats others ++ b.rest) both to o r a);
          }

  -- none is left at the end
  pub over_all : {p n : ℕ} {out : List ℕ} → Left p out n → end ≤ p → (out' : List ℕ) (r : ℕ) → Adds (says nil) out n out' r → Adds whole out₀ n₀ out' r
  over_all {p} {n} {out} b le out' r a = go b.row b.ends b.gives
    where
      go : (row : Forest) → p + length (flats row) ≡ end → ((o : List ℕ) (r : ℕ) → Adds (says row) out n o r → Adds whole out₀ n₀ o r) → Adds whole out₀ n₀ out' r
      go nil en gives = gives out' r a
      go (cons (node l c) others) en gives = absurd (omega arith)

-- before the first turn: the row below a node
pub started : (nodes : List Node) (at end : ℕ) (says : Forest → List ℕ) (out : List ℕ) (n p : ℕ) (k : Label) (c : Forest) (rest : List Node) → drop at nodes ≡ flat (node k c) ++ rest → end ≡ at + length (flat (node k c)) → p ≡ min (at + 1) (2 ^ 64 - 1) → end < 2 ^ 64 → Left nodes end says (says c) out n p out n
started nodes at end says out n p k c rest e long next small =
    let to : p ≡ at + 1 = omega arith in
    record {
      row = c;
      rest = rest;
      stands = ap (λ i. drop i nodes) to ∙ behind nodes at (node_at nodes at ∷ []) (flats c ++ rest) (e ∙ ap (λ m. m ∷ (flats c ++ rest)) (sym (here nodes at _ (flats c ++ rest) e)));
      ends = omega arith;
      gives = λ o r a. a;
    }

-- a part and then the rest of its form
pub closing-more : (text : List ℕ) (t : Tree) (row : Forest) → closing text (cons t row) ≡ 32 ∷ (written (held text t) ++ closing text row)
closing-more text t row = ap (λ s. 32 ∷ s) (append_assoc (written (held text t)) (parts (helds text row)) (41 ∷ []))
