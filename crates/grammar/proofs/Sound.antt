-- What the reader's states allow is allowed by the table of parts.
use Rattle.std.proofs.Common.{◌≡◌, ℕ, Bool, true, false, cond, ◌||◌, ◌⊎◌, [], ◌∷◌, Some, Option, sym, refl, subst, inl, inr}
use mathlib.Core.Bool.{false≢true}
use Rattle.std.proofs.iter.runs.Lists.{none-some}
use Rattle.grammar.specs.declared.group.Group.{Group}
use Rattle.grammar.specs.declared.group.Sort.{Sort}
use Rattle.grammar.specs.declared.rest.Rest.{Rest}
use Rattle.grammar.specs.Groups.{belongs, same_group}
use Rattle.grammar.specs.Forms.{Form, form, Forms, nil, cons}
use Rattle.grammar.specs.Parts.{Proper, many, Good, good, Fit, none, first, missing, present, last, more}
use Rattle.grammar.specs.Rests.{when, params_part, arrow_part, attrs_part, after, inside, closes}
use Rattle.grammar.specs.Readings.{opening, Formed, formed, Reads, Items, end, item}
use Rattle.grammar.specs.Laws.{Sound}
use Rattle.grammar.proofs.Wanted.{left, Meant, Place, plain, jsx, group_of, same_parts}

-- what an answer of `after` says
pub when_some : (b : Bool) (a r : Rest) → when b a ≡ Some r → (b ≡ true) × (a ≡ r)
when_some true a r e = (refl, cc)
when_some false a r e = absurd (none-some _ e)

pub cond_some : (b : Bool) (a r : Rest) (o : Option Rest) → cond b (Some a) o ≡ Some r → ((b ≡ true) × (a ≡ r)) ⊎ (o ≡ Some r)
cond_some true a r o e = inl (refl, cc)
cond_some false a r o e = inr e

first-among : (b : Bool) (c : Bool) → (b || false) ≡ true → (b || c) ≡ true
first-among true c e = refl
first-among false c e = absurd (false≢true e)

module _ (limit : ℕ) where
  abbrev Allowed : Rest → Forms → Type 0
  Allowed = Meant (Unit {0}) limit

  -- a form that is allowed inside, where r is wanted
  abbrev Inner : Rest → Form → Type 0
  Inner r (form s fs) = Proper limit s × Allowed (opening (inside r s.kind) s.word) fs

  good_of : (r : Rest) (w : Sort) (t : Form) → Place r w → belongs w (group_of t) ≡ true → Inner r t → Good limit w t
  good_of r w (form s fs) p b i = good b i.0 (subst (λ A. A) (same_parts (Unit {0}) limit fs r w s.word s.kind p b) i.1)

  moved : {a r : Rest} (fs : Forms) → a ≡ r → Allowed r fs → Allowed a fs
  moved fs e m = subst (λ x. Allowed x fs) (sym e) m

  -- a part after which `next` is wanted
  single : (r : Rest) (w : Sort) (next r' : Rest) (t : Form) (fs : Forms) → Place r w → when (belongs w (group_of t)) next ≡ Some r' → Inner r t → Allowed r' fs → Good limit w t × Allowed next fs
  single r w next r' t fs p e i m =
      let h = when_some (belongs w (group_of t)) next r' e in
      (good_of r w t p h.0 i, moved fs h.1 m)

  params : (r' : Rest) (t : Form) (fs : Forms) → params_part (group_of t) ≡ Some r' → Inner Rest.Params t → Allowed r' fs → Allowed Rest.Params (cons t fs)
  params r' t fs e i m = by (cond_some (belongs Sort.Block (group_of t)) Rest.Done r' (when (belongs Sort.Pattern (group_of t)) Rest.Params) e)
    where
      by : ((belongs Sort.Block (group_of t) ≡ true) × (Rest.Done ≡ r')) ⊎ (when (belongs Sort.Pattern (group_of t)) Rest.Params ≡ Some r') → Allowed Rest.Params (cons t fs)
      by (inl h) = last (first (good_of Rest.Params Sort.Block t (plain refl refl refl) h.0 i) (moved fs h.1 m))
      by (inr h) =
          let x = single Rest.Params Sort.Pattern Rest.Params r' t fs (plain refl refl refl) h i m in
          more x.0 x.1

  attrs : (r' : Rest) (t : Form) (fs : Forms) → attrs_part (group_of t) ≡ Some r' → Inner Rest.Attrs t → Allowed r' fs → Allowed Rest.Attrs (cons t fs)
  attrs r' t fs e i m = by (cond_some (belongs Sort.Attr (group_of t)) Rest.Attrs r' (when (belongs Sort.Expression (group_of t)) Rest.Exprs) e)
    where
      by : ((belongs Sort.Attr (group_of t) ≡ true) × (Rest.Attrs ≡ r')) ⊎ (when (belongs Sort.Expression (group_of t)) Rest.Exprs ≡ Some r') → Allowed Rest.Attrs (cons t fs)
      by (inl h) = more (good_of Rest.Attrs Sort.Attr t (plain refl refl refl) h.0 i) (moved fs h.1 m)
      by (inr h) =
          let x = single Rest.Attrs Sort.Expression Rest.Exprs r' t fs (plain refl refl refl) h i m in
          last (more x.0 x.1)

  -- an `id` is the body if nothing follows, else a parameter
  arrow_ident : (r : Rest) (t : Form) (fs : Forms) → Place r Sort.Pattern → Place r Sort.Body → belongs Sort.Ident (group_of t) ≡ true → Inner r t → Allowed Rest.ArrowOrBody fs → Fit limit (left Rest.Arrow) (cons t fs)
  arrow_ident r t fs p q b i (inl f) = more (good_of r Sort.Pattern t p (first-among (same_group Group.Ident (group_of t)) _ b) i) f
  arrow_ident r t fs p q b i (inr e) = last (first (good_of r Sort.Body t q (first-among (same_group Group.Ident (group_of t)) _ b) i) (subst (λ x. Fit limit [] x) (sym e) none))

  arrow : (r r' : Rest) (t : Form) (fs : Forms) → Place r Sort.Pattern → Place r Sort.Body → arrow_part (group_of t) ≡ Some r' → Inner r t → Allowed r' fs → Fit limit (left Rest.Arrow) (cons t fs)
  arrow r r' t fs p q e i m = by (cond_some (belongs Sort.Ident (group_of t)) Rest.ArrowOrBody r' (cond (belongs Sort.Pattern (group_of t)) (Some Rest.Arrow) (when (belongs Sort.Body (group_of t)) Rest.Done)) e)
    where
      next : ((belongs Sort.Pattern (group_of t) ≡ true) × (Rest.Arrow ≡ r')) ⊎ (when (belongs Sort.Body (group_of t)) Rest.Done ≡ Some r') → Fit limit (left Rest.Arrow) (cons t fs)
      next (inl h) = more (good_of r Sort.Pattern t p h.0 i) (moved fs h.1 m)
      next (inr h) =
          let x = single r Sort.Body Rest.Done r' t fs q h i m in
          last (first x.0 x.1)

      by : ((belongs Sort.Ident (group_of t) ≡ true) × (Rest.ArrowOrBody ≡ r')) ⊎ (cond (belongs Sort.Pattern (group_of t)) (Some Rest.Arrow) (when (belongs Sort.Body (group_of t)) Rest.Done) ≡ Some r') → Fit limit (left Rest.Arrow) (cons t fs)
      by (inl h) = arrow_ident r t fs p q h.0 i (moved fs h.1 m)
      by (inr h) = next (cond_some (belongs Sort.Pattern (group_of t)) Rest.Arrow r' (when (belongs Sort.Body (group_of t)) Rest.Done) h)

  -- one part more
  joined : (r r' : Rest) (t : Form) (fs : Forms) → after r (group_of t) ≡ Some r' → Inner r t → Allowed r' fs → Allowed r (cons t fs)
  joined Rest.Top r' t fs e i m = tt
  joined Rest.Done r' t fs e i m = absurd (none-some _ e)
  joined Rest.Item r' t fs e i m = tt
  joined Rest.Idents r' t fs e i m =
      let x = single Rest.Idents Sort.Ident Rest.Idents r' t fs (plain refl refl refl) e i m in
      more x.0 x.1
  joined Rest.Exported r' t fs e i m =
      let x = single Rest.Exported Sort.Exported Rest.Done r' t fs (plain refl refl refl) e i m in
      first x.0 x.1
  joined Rest.NameOrNone r' t fs e i m =
      let x = single Rest.NameOrNone Sort.Ident Rest.Params r' t fs (plain refl refl refl) e i m in
      first x.0 x.1
  joined Rest.Name r' t fs e i m =
      let x = single Rest.Name Sort.Ident Rest.Params r' t fs (plain refl refl refl) e i m in
      first x.0 x.1
  joined Rest.Params r' t fs e i m = params r' t fs e i m
  joined Rest.Expr r' t fs e i m =
      let x = single Rest.Expr Sort.Expression Rest.Done r' t fs (plain refl refl refl) e i m in
      first x.0 x.1
  joined Rest.MaybeExpr r' t fs e i m =
      let x = single Rest.MaybeExpr Sort.Expression Rest.Done r' t fs (plain refl refl refl) e i m in
      present x.0 x.1
  joined Rest.FirstDecl r' t fs e i m =
      let x = single Rest.FirstDecl Sort.Decl Rest.Decls r' t fs (plain refl refl refl) e i m in
      first x.0 x.1
  joined Rest.Decls r' t fs e i m =
      let x = single Rest.Decls Sort.Decl Rest.Decls r' t fs (plain refl refl refl) e i m in
      more x.0 x.1
  joined Rest.Test r' t fs e i m =
      let x = single Rest.Test Sort.Expression Rest.Then r' t fs (plain refl refl refl) e i m in
      first x.0 x.1
  joined Rest.Then r' t fs e i m =
      let x = single Rest.Then Sort.Statement Rest.Else r' t fs (plain refl refl refl) e i m in
      first x.0 x.1
  joined Rest.Else r' t fs e i m =
      let x = single Rest.Else Sort.Statement Rest.Done r' t fs (plain refl refl refl) e i m in
      present x.0 x.1
  joined Rest.Statements r' t fs e i m =
      let x = single Rest.Statements Sort.Statement Rest.Statements r' t fs (plain refl refl refl) e i m in
      more x.0 x.1
  joined Rest.Exprs r' t fs e i m =
      let x = single Rest.Exprs Sort.Expression Rest.Exprs r' t fs (plain refl refl refl) e i m in
      more x.0 x.1
  joined Rest.Callee r' t fs e i m =
      let x = single Rest.Callee Sort.Callee Rest.Exprs r' t fs (plain refl refl refl) e i m in
      first x.0 x.1
  joined Rest.Tag r' t fs e i m =
      let x = single Rest.Tag Sort.Expression Rest.Exprs r' t fs (plain refl refl refl) e i m in
      first x.0 x.1
  joined Rest.Object r' t fs e i m =
      let x = single Rest.Object Sort.Expression Rest.Property r' t fs (plain refl refl refl) e i m in
      first x.0 x.1
  joined Rest.NameObject r' t fs e i m =
      let x = single Rest.NameObject Sort.JsxName Rest.Property r' t fs (jsx refl refl refl) e i m in
      first x.0 x.1
  joined Rest.Property r' t fs e i m =
      let x = single Rest.Property Sort.Prop Rest.Done r' t fs (plain refl refl refl) e i m in
      first x.0 x.1
  joined Rest.Operand r' t fs e i m =
      let x = single Rest.Operand Sort.Expression Rest.Second r' t fs (plain refl refl refl) e i m in
      first x.0 x.1
  joined Rest.Second r' t fs e i m =
      let x = single Rest.Second Sort.Expression Rest.MaybeExpr r' t fs (plain refl refl refl) e i m in
      present x.0 x.1
  joined Rest.Target r' t fs e i m =
      let x = single Rest.Target Sort.Target Rest.Expr r' t fs (plain refl refl refl) e i m in
      first x.0 x.1
  joined Rest.Arrow r' t fs e i m = arrow Rest.Arrow r' t fs (plain refl refl refl) (plain refl refl refl) e i m
  joined Rest.ArrowOrBody r' t fs e i m = inl (arrow Rest.ArrowOrBody r' t fs (plain refl refl refl) (plain refl refl refl) e i m)
  joined Rest.Element r' t fs e i m =
      let x = single Rest.Element Sort.JsxName Rest.Attrs r' t fs (jsx refl refl refl) e i m in
      first x.0 x.1
  joined Rest.Attrs r' t fs e i m = attrs r' t fs e i m
  joined Rest.Patterns r' t fs e i m =
      let x = single Rest.Patterns Sort.Pattern Rest.Patterns r' t fs (plain refl refl refl) e i m in
      more x.0 x.1
  joined Rest.Defaulted r' t fs e i m =
      let x = single Rest.Defaulted Sort.Pattern Rest.Expr r' t fs (plain refl refl refl) e i m in
      first x.0 x.1
  joined Rest.Declared r' t fs e i m =
      let x = single Rest.Declared Sort.Pattern Rest.MaybeExpr r' t fs (plain refl refl refl) e i m in
      first x.0 x.1

  -- no part more
  ended : (r : Rest) → closes r ≡ true → Allowed r nil
  ended Rest.Top e = tt
  ended Rest.Done e = none
  ended Rest.Item e = tt
  ended Rest.Idents e = last none
  ended Rest.MaybeExpr e = missing none
  ended Rest.Decls e = last none
  ended Rest.Else e = missing none
  ended Rest.Statements e = last none
  ended Rest.Exprs e = last none
  ended Rest.Second e = missing (missing none)
  ended Rest.ArrowOrBody e = inr refl
  ended Rest.Attrs e = last (last none)
  ended Rest.Patterns e = last none
  ended r e = absurd (false≢true e)

  step : {r r' : Rest} {t : Form} → Formed limit r t r' → after r (group_of t) ≡ Some r'
  step (formed e p rs) = e

  mutual
    allowed : {r : Rest} {fs : Forms} → Reads limit r fs → Allowed r fs
    allowed (Reads.last {r = r} e) = ended r e
    allowed (Reads.more {r = r} {r' = r'} {t = t} {fs = fs} f rs) = joined r r' t fs (step f) (inner f) (allowed rs)

    inner : {r r' : Rest} {t : Form} → Formed limit r t r' → Inner r t
    inner (formed e p rs) = (p, allowed rs)

  items_fit : {fs : Forms} → Items limit fs → Fit limit (many Sort.Item ∷ []) fs
  items_fit end = last none
  items_fit (item {t = t} f is) = more (good_of Rest.Item Sort.Item t (plain refl refl refl) (when_some (belongs Sort.Item (group_of t)) Rest.Item Rest.Item (step f)).0 (inner f)) (items_fit is)

pub sound : Sound
sound limit s items k p is = good (rw k refl) p (rw k (items_fit limit is))
