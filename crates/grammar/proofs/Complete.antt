-- What the table of parts allows is allowed by the reader's states.
use Rattle.std.proofs.Common.{◌≡◌, ℕ, true, cond, ◌⊎◌, List, [], ◌∷◌, Some, sym, refl, ap, ◌∙◌, subst, inl, inr, arith}
use mathlib.Core.Bool.{false≢true}
use Rattle.tables.specs.declared.kind.Kind.{Kind}
use Rattle.grammar.specs.declared.group.Group.{Group}
use Rattle.grammar.specs.declared.group.Sort.{Sort}
use Rattle.grammar.specs.declared.rest.Rest.{Rest}
use Rattle.grammar.specs.Groups.{group, belongs}
use Rattle.grammar.specs.Forms.{Form, form, Forms, nil, cons}
use Rattle.grammar.specs.Parts.{Part, one, maybe, many, parts, Good, good, Fit, none, first, missing, present, last, more}
use Rattle.grammar.specs.Rests.{when, params_part, arrow_part, attrs_part, after, inside, closes}
use Rattle.grammar.specs.Readings.{opening, Formed, formed, Reads, Items, end, item}
use Rattle.grammar.specs.Laws.{Complete}
use Rattle.grammar.proofs.Wanted.{left, Meant, Place, plain, jsx, group_of, same_parts}

-- groups that stop a run of parts are told apart

pattern_param : (g : Group) → belongs Sort.Pattern g ≡ true → params_part g ≡ Some Rest.Params
pattern_param Group.Ident b = refl
pattern_param Group.Pattern b = refl
pattern_param g b = absurd (false≢true b)

expression_child : (g : Group) → belongs Sort.Expression g ≡ true → attrs_part g ≡ Some Rest.Exprs
expression_child Group.Ident b = refl
expression_child Group.Member b = refl
expression_child Group.Expression b = refl
expression_child g b = absurd (false≢true b)

pattern_arrow : (g : Group) → belongs Sort.Pattern g ≡ true → (arrow_part g ≡ Some Rest.ArrowOrBody) ⊎ (arrow_part g ≡ Some Rest.Arrow)
pattern_arrow Group.Ident b = inl refl
pattern_arrow Group.Pattern b = inr refl
pattern_arrow g b = absurd (false≢true b)

body_arrow : (g : Group) → belongs Sort.Body g ≡ true → (arrow_part g ≡ Some Rest.ArrowOrBody) ⊎ (arrow_part g ≡ Some Rest.Done)
body_arrow Group.Block b = inr refl
body_arrow Group.Ident b = inl refl
body_arrow Group.Member b = inr refl
body_arrow Group.Expression b = inr refl
body_arrow g b = absurd (false≢true b)

only_module : (k : Kind) → belongs Sort.Module (group k) ≡ true → k ≡ Kind.Module
only_module Kind.Module b = refl
only_module k b = absurd (false≢true b)

module _ (limit : ℕ) where
  abbrev Wanted : Rest → Forms → Type 0
  Wanted = Meant ⊥ limit

  belonging : {w : Sort} {t : Form} → Good limit w t → belongs w (group_of t) ≡ true
  belonging (good b p f) = b

  -- the parts taken apart
  fit_none : {t : Form} {fs : Forms} → Fit limit [] (cons t fs) → ⊥
  fit_none f = elim f [ ]

  fit_one : {w : Sort} {ps : List Part} {t : Form} {fs : Forms} → Fit limit (one w ∷ ps) (cons t fs) → Good limit w t × Fit limit ps fs
  fit_one (first g f) = (g, f)

  fit_many : {w : Sort} {t : Form} {fs : Forms} → Fit limit (many w ∷ []) (cons t fs) → Good limit w t × Fit limit (many w ∷ []) fs
  fit_many (last f) = absurd (fit_none f)
  fit_many (more g f) = (g, f)

  fit_maybe : {w : Sort} {t : Form} {fs : Forms} → Fit limit (maybe w ∷ []) (cons t fs) → Good limit w t × Fit limit [] fs
  fit_maybe (missing f) = absurd (fit_none f)
  fit_maybe (present g f) = (g, f)

  fit_two : {w : Sort} {t : Form} {fs : Forms} → Fit limit (maybe w ∷ maybe w ∷ []) (cons t fs) → Good limit w t × Fit limit (maybe w ∷ []) fs
  fit_two (missing f) =
      let x = fit_maybe f in
      (x.0, missing x.1)
  fit_two (present g f) = (g, f)

  wants_one : {w : Sort} {ps : List Part} → Fit limit (one w ∷ ps) nil → ⊥
  wants_one f = elim f [ ]

  wants_last : {v w : Sort} {ps : List Part} → Fit limit (many v ∷ one w ∷ ps) nil → ⊥
  wants_last (last f) = wants_one f

  fit_nil : {fs : Forms} → Fit limit [] fs → fs ≡ nil
  fit_nil none = refl

  -- what the reader does at the part t
  record Next (r : Rest) (t : Form) (fs : Forms) : Type 0 where
    rest : Rest
    step : after r (group_of t) ≡ Some rest
    sort : Sort
    place : Place r sort
    here : Good limit sort t
    others : Wanted rest fs

  single : (r : Rest) (w : Sort) (next : Rest) (t : Form) (fs : Forms) → Place r w → after r (group_of t) ≡ when (belongs w (group_of t)) next → Good limit w t × Wanted next fs → Next r t fs
  single r w next t fs p e x = record { rest = next; step = rw e (ap (λ b. when b next) (belonging x.0)); sort = w; place = p; here = x.0; others = x.1 }

  params : (t : Form) (fs : Forms) → Fit limit (left Rest.Params) (cons t fs) → Next Rest.Params t fs
  params t fs (last (first g f)) = record { rest = Rest.Done; step = ap (λ b. cond b (Some Rest.Done) (when (belongs Sort.Pattern (group_of t)) Rest.Params)) (belonging g); sort = Sort.Block; place = plain refl refl refl; here = g; others = f }
  params t fs (more g f) = record { rest = Rest.Params; step = pattern_param (group_of t) (belonging g); sort = Sort.Pattern; place = plain refl refl refl; here = g; others = f }

  attrs : (t : Form) (fs : Forms) → Fit limit (left Rest.Attrs) (cons t fs) → Next Rest.Attrs t fs
  attrs t fs (last f) =
      let x = fit_many f in
      record { rest = Rest.Exprs; step = expression_child (group_of t) (belonging x.0); sort = Sort.Expression; place = plain refl refl refl; here = x.0; others = x.1 }
  attrs t fs (more g f) = record { rest = Rest.Attrs; step = ap (λ b. cond b (Some Rest.Attrs) (when (belongs Sort.Expression (group_of t)) Rest.Exprs)) (belonging g); sort = Sort.Attr; place = plain refl refl refl; here = g; others = f }

  arrow : (r : Rest) (t : Form) (fs : Forms) → Place r Sort.Pattern → Place r Sort.Body → after r (group_of t) ≡ arrow_part (group_of t) → Fit limit (left Rest.Arrow) (cons t fs) → Next r t fs
  arrow r t fs p q e (last (first g f)) = by (body_arrow (group_of t) (belonging g))
    where
      by : (arrow_part (group_of t) ≡ Some Rest.ArrowOrBody) ⊎ (arrow_part (group_of t) ≡ Some Rest.Done) → Next r t fs
      by (inl h) = record { rest = Rest.ArrowOrBody; step = e ∙ h; sort = Sort.Body; place = q; here = g; others = inr (fit_nil f) }
      by (inr h) = record { rest = Rest.Done; step = e ∙ h; sort = Sort.Body; place = q; here = g; others = f }
  arrow r t fs p q e (more g f) = by (pattern_arrow (group_of t) (belonging g))
    where
      by : (arrow_part (group_of t) ≡ Some Rest.ArrowOrBody) ⊎ (arrow_part (group_of t) ≡ Some Rest.Arrow) → Next r t fs
      by (inl h) = record { rest = Rest.ArrowOrBody; step = e ∙ h; sort = Sort.Pattern; place = p; here = g; others = inl f }
      by (inr h) = record { rest = Rest.Arrow; step = e ∙ h; sort = Sort.Pattern; place = p; here = g; others = f }

  arrow_or_body : (t : Form) (fs : Forms) → Wanted Rest.ArrowOrBody (cons t fs) → Next Rest.ArrowOrBody t fs
  arrow_or_body t fs (inl f) = arrow Rest.ArrowOrBody t fs (plain refl refl refl) (plain refl refl refl) refl f
  arrow_or_body t fs (inr e) =
      let z : ◌≡◌ {A = ℕ} 0 1 = cc in
      absurd (omega arith)

  advanced : (r : Rest) (t : Form) (fs : Forms) → Wanted r (cons t fs) → Next r t fs
  advanced Rest.Top t fs m = absurd m
  advanced Rest.Done t fs m = absurd (fit_none m)
  advanced Rest.Item t fs m = absurd m
  advanced Rest.Idents t fs m = single Rest.Idents _ _ t fs (plain refl refl refl) refl (fit_many m)
  advanced Rest.Params t fs m = params t fs m
  advanced Rest.MaybeExpr t fs m = single Rest.MaybeExpr _ _ t fs (plain refl refl refl) refl (fit_maybe m)
  advanced Rest.Decls t fs m = single Rest.Decls _ _ t fs (plain refl refl refl) refl (fit_many m)
  advanced Rest.Else t fs m = single Rest.Else _ _ t fs (plain refl refl refl) refl (fit_maybe m)
  advanced Rest.Statements t fs m = single Rest.Statements _ _ t fs (plain refl refl refl) refl (fit_many m)
  advanced Rest.Exprs t fs m = single Rest.Exprs _ _ t fs (plain refl refl refl) refl (fit_many m)
  advanced Rest.NameObject t fs m = single Rest.NameObject _ _ t fs (jsx refl refl refl) refl (fit_one m)
  advanced Rest.Second t fs m = single Rest.Second _ _ t fs (plain refl refl refl) refl (fit_two m)
  advanced Rest.Arrow t fs m = arrow Rest.Arrow t fs (plain refl refl refl) (plain refl refl refl) refl m
  advanced Rest.ArrowOrBody t fs m = arrow_or_body t fs m
  advanced Rest.Element t fs m = single Rest.Element _ _ t fs (jsx refl refl refl) refl (fit_one m)
  advanced Rest.Attrs t fs m = attrs t fs m
  advanced Rest.Patterns t fs m = single Rest.Patterns _ _ t fs (plain refl refl refl) refl (fit_many m)
  advanced r t fs m = single r _ _ t fs (plain refl refl refl) refl (fit_one m)

  closed : (r : Rest) → Wanted r nil → closes r ≡ true
  closed Rest.Top m = absurd m
  closed Rest.Done m = refl
  closed Rest.Item m = absurd m
  closed Rest.Idents m = refl
  closed Rest.Params m = absurd (wants_last m)
  closed Rest.MaybeExpr m = refl
  closed Rest.Decls m = refl
  closed Rest.Else m = refl
  closed Rest.Statements m = refl
  closed Rest.Exprs m = refl
  closed Rest.Second m = refl
  closed Rest.Arrow m = absurd (wants_last m)
  closed Rest.ArrowOrBody m = refl
  closed Rest.Attrs m = refl
  closed Rest.Patterns m = refl
  closed r m = absurd (wants_one m)

  mutual
    reads : (fs : Forms) (r : Rest) → Wanted r fs → Reads limit r fs
    reads nil r m = Reads.last (closed r m)
    reads (cons t fs) r m =
        let n = advanced r t fs m in
        Reads.more (forms t r n.rest n.sort n.step n.place n.here) (reads fs n.rest n.others)

    forms : (t : Form) (r r' : Rest) (w : Sort) → after r (group_of t) ≡ Some r' → Place r w → Good limit w t → Formed limit r t r'
    forms (form s fs) r r' w e p (good b q f) = formed e q (reads fs (opening (inside r s.kind) s.word) (subst (λ A. A) (sym (same_parts ⊥ limit fs r w s.word s.kind p b)) f))

  items_of : (fs : Forms) → Fit limit (many Sort.Item ∷ []) fs → Items limit fs
  items_of nil f = end
  items_of (cons t fs) f =
      let x = fit_many f in
      item (forms t Rest.Item Rest.Item Sort.Item (ap (λ b. when b Rest.Item) (belonging x.0)) (plain refl refl refl) x.0) (items_of fs x.1)

pub complete : Complete
complete limit s items (good b p f) =
    let k = only_module s.kind b in
    (k, p, items_of limit items (subst (λ x. Fit limit (parts Sort.Module s.word x) items) k f))
