-- The last of the open nodes, what a push tells, what a refusal that is handed on is, and a node that was entered.
use Rattle.std.proofs.Common.{◌≡◌, ℕ, suc, ◌+◌, ◌-◌, ◌<◌, ◌≤◌, min, Bool, true, false, cond, List, [], ◌∷◌, ◌++◌, length, get_or, take, IsErrAnd, Some, None, Ok, Err, Option, Result, sym, refl, ap, ◌∙◌, subst, arith}
use Rattle.std.specs.List.{slice_get}
use Rattle.std.proofs.lemmas.List.{take_more, take_all}
use Rattle.std.proofs.lemmas.Option.{slice_get-get_or}
use Rattle.std.proofs.lemmas.Result.{err_from_is_err_and}
use Rattle.std.proofs.lemmas.Bool.{ltb-true, ltb-false}
use Rattle.tables.specs.declared.list.Full.{Full}
use Rattle.tables.specs.declared.list.List.{List as Bounded}
use Rattle.tables.specs.declared.node.Node.{Node}
use Rattle.walk.specs.declared.visit.Step.{Step}
use Rattle.walk.specs.declared.visit.Step.TheVariants.{Into, Past}
use Rattle.walk.specs.Calls.{Enters}
use Rattle.tables.specs.Lists.{last, contents, room, takes, answer}
use Rattle.walk.specs.Turns.{Entered, past, into, onward}

-- what a `?` returns where the refusal stays as it is
pub handed_on : {T E : Type 0} (r : Result T E) (e : E) → IsErrAnd r (λ y. y ≡ e) → r ≡ Err e
handed_on r e b = let p = err_from_is_err_and r b in p.1 ∙ ap Err p.2

last_at : (xs : List ℕ) (i x : ℕ) → i + 1 ≡ length xs → Some x ≡ slice_get xs i → xs ≡ take i xs ++ x ∷ []
last_at xs i x long e =
    let h : i < length xs = omega arith in
    let n = slice_get-get_or xs i x h in
    let same : get_or xs i x ≡ x = cc in
    sym (take_all (i + 1) xs (omega arith)) ∙ take_more xs i x h ∙ ap (λ y. take i xs ++ y ∷ []) same

-- what the last element says of a list
pub last_some : (xs : List ℕ) (x : ℕ) → Some x ≡ last xs → xs ≡ take (length xs - 1) xs ++ x ∷ []
last_some [] x e = let z : ◌≡◌ {A = ℕ} 0 1 = cc in absurd (omega arith)
last_some (y ∷ ys) x e = last_at (y ∷ ys) (suc (length ys) - 1) x (omega arith) e

pub last_none : (xs : List ℕ) → None ≡ last xs → xs ≡ []
last_none [] e = refl
last_none (y ∷ ys) e =
    let n = slice_get-get_or (y ∷ ys) (suc (length ys) - 1) y (omega arith) in
    let z : ◌≡◌ {A = ℕ} 0 1 = cc in
    absurd (omega arith)

pub none_last : (xs : List ℕ) → length xs ≡ 0 → None ≡ last xs
none_last [] e = refl
none_last (y ∷ ys) e = absurd (omega arith)

-- a push that is refused, and one that is not
pub record Refused {X : Type 0} (l l' : Bounded X) : Type 0 where
  pub full : room l ≤ length (contents l)
  pub holds : contents l' ≡ contents l

pub record Taken {X : Type 0} (l : Bounded X) (x : X) (l' : Bounded X) : Type 0 where
  pub fits : length (contents l) < room l
  pub holds : contents l' ≡ contents l ++ x ∷ []

abbrev told : Bool → Result (Unit {0}) Full
told b = cond b (Ok tt) (Err (record {}))

module _ {X : Type 0} (l : Bounded X) (x : X) (l' : Bounded X) (h : contents l' ≡ cond (takes l) (contents l ++ x ∷ []) (contents l)) where
  pub push-refused : (e : Full) → Err e ≡ answer l → Refused l l'
  push-refused e a = go (takes l) refl a h
    where
      go : (b : Bool) → takes l ≡ b → Err e ≡ told b → contents l' ≡ cond b (contents l ++ x ∷ []) (contents l) → Refused l l'
      go true t a h = let z : ◌≡◌ {A = ℕ} 0 1 = cc in absurd (omega arith)
      go false t a h = record { full = ltb-false _ _ t; holds = h }

  pub push_taken : (u : Unit {0}) → Ok u ≡ answer l → Taken l x l'
  push_taken u a = go (takes l) refl a h
    where
      go : (b : Bool) → takes l ≡ b → Ok u ≡ told b → contents l' ≡ cond b (contents l ++ x ∷ []) (contents l) → Taken l x l'
      go true t a h = record { fits = ltb-true _ _ t; holds = h }
      go false t a h = let z : ◌≡◌ {A = ℕ} 0 1 = cc in absurd (omega arith)

module _ {S : Type 0} {enters : Enters S} {nodes : List Node} {size at next : ℕ} {above : Option ℕ} {held held' : List ℕ} {s s' : S} {step : Step} (x : enters s nodes at above (Ok step) s') (on : next ≡ onward nodes at step) where
  pub goes-into : step ≡ Into → length held < size → held' ≡ held ++ min at 65535 ∷ [] → Entered enters nodes size at above held s (Ok next) held' s'
  goes-into is fits more =
      let y : enters s nodes at above (Ok Into) s' = subst (λ a. enters s nodes at above (Ok a) s') is x in
      let next-is : next ≡ at + 1 = on ∙ ap (onward nodes at) is in
      rw (next-is, more) (into y fits)

  pub goes-past : step ≡ Past → held' ≡ held → Entered enters nodes size at above held s (Ok next) held' s'
  goes-past is same =
      let y : enters s nodes at above (Ok Past) s' = subst (λ a. enters s nodes at above (Ok a) s') is x in
      let next-is = on ∙ ap (onward nodes at) is in
      rw (next-is, same) (past y)
