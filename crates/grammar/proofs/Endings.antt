-- In every state some parts may follow and lead to the end.
use Rattle.std.proofs.Common.{◌≡◌, ℕ, Bool, true, false, cond, ◌≢◌, ◌⊎◌, List, [], ◌∷◌, Some, Option, sym, refl, ap, ◌∙◌, subst, inl, inr, true≢false, zero-le, lit≤}
use mathlib.Core.Bool.{false≢true}
use Rattle.std.proofs.iter.runs.Lists.{none-some}
use Rattle.tables.specs.declared.kind.Kind.{Kind}
use Rattle.tables.specs.declared.kind.Word.{Word}
use Rattle.tables.specs.declared.node.Span.{Span}
use Rattle.grammar.specs.declared.label.Label.{Label}
use Rattle.grammar.specs.declared.group.Group.{Group}
use Rattle.grammar.specs.declared.group.Sort.{Sort}
use Rattle.grammar.specs.declared.rest.Rest.{Rest}
use Rattle.grammar.specs.Groups.{group, belongs}
use Rattle.grammar.specs.Labels.{label_of}
use Rattle.grammar.specs.Forms.{Says, Form, form, Forms, nil, cons}
use Rattle.grammar.specs.Parts.{Placed, Said, Proper}
use Rattle.grammar.specs.Rests.{when, arrow_part, after, inside, member_object, closes, goes_on}
use Rattle.grammar.specs.Readings.{opening, by_name, Formed, formed, Reads, last, more}
use Rattle.grammar.specs.Laws.{Completable, GoesOn, ItemsApart}
use Rattle.grammar.proofs.Sound.{when_some, cond_some}

-- what a form may say at least
abbrev pub least_word : Label → Word
least_word Label.Variables = Word.Var
least_word Label.Handle = Word.S
least_word Label.Truth = Word.True
least_word l = Word.Bare

abbrev pub least_name : Label → List ℕ
least_name Label.Ident = 97 ∷ []
least_name Label.Name = 97 ∷ []
least_name l = []

abbrev pub least_by : Label → Kind → Span → Says
least_by l k span = record { kind = k; word = least_word l; scope = 0; number = 0; name = least_name l; span = span }

abbrev pub least : Kind → Span → Says
least k span = least_by (label_of k) k span

least_said : (l : Label) (k : Kind) (span : Span) → Said l (least_by l k span)
least_said Label.Ident k span = (refl, lit≤ tt, refl, refl)
least_said Label.Scope k span = (refl, lit≤ tt, refl, refl)
least_said Label.Handle k span = (refl, refl, lit≤ tt, refl)
least_said Label.Text k span = (refl, refl, refl)
least_said l k span = (refl, refl, refl, refl)

-- a form of any kind with any span has something to say
pub least_proper : (limit : ℕ) (k : Kind) (span : Span) → Placed limit span → Proper limit (least k span)
least_proper limit k span p = record { placed = p; said = least_said (label_of k) k span }

abbrev dummy : Span
dummy = record { lo = 0; hi = 0 }

-- the least forms
abbrev with : Kind → Forms → Form
with k fs = form (least k dummy) fs

abbrev leaf : Kind → Form
leaf k = with k nil

abbrev decl : Form
decl = with Kind.Decl (cons (leaf Kind.Id) nil)

abbrev var : Form
var = with Kind.Var (cons decl nil)

module _ (limit : ℕ) where
  dummy_proper : (k : Kind) → Proper limit (least k dummy)
  dummy_proper k = least_proper limit k dummy (zero-le, zero-le, λ e. e)

  leaf-formed : (r r' : Rest) (k : Kind) → after r (group k) ≡ Some r' → closes (opening (inside r k) (least_word (label_of k))) ≡ true → Formed limit r (leaf k) r'
  leaf-formed r r' k e c = formed e (dummy_proper k) (last c)

  decl-formed : (r r' : Rest) → after r Group.Decl ≡ Some r' → Formed limit r decl r'
  decl-formed r r' e = formed e (dummy_proper Kind.Decl) (more (leaf-formed Rest.Declared Rest.MaybeExpr Kind.Id refl refl) (last refl))

  var-formed : (r r' : Rest) → after r Group.Declaration ≡ Some r' → Formed limit r var r'
  var-formed r r' e = formed e (dummy_proper Kind.Var) (more (decl-formed Rest.FirstDecl Rest.Decls refl) (last refl))

  -- a form that may stand in a state, and what is wanted after it
  abbrev Follows : Rest → Type 0
  Follows r = (t : Form) × (r' : Rest) × Formed limit r t r'

  abbrev Ends : Rest → Type 0
  Ends r = (fs : Forms) × Reads limit r fs

  by_leaf : (r r' : Rest) (k : Kind) → after r (group k) ≡ Some r' → closes (opening (inside r k) (least_word (label_of k))) ≡ true → Follows r
  by_leaf r r' k e c = (leaf k, r', leaf-formed r r' k e c)

  stop : (r : Rest) → closes r ≡ true → Ends r
  stop r c = (nil, last c)

  follow : (r : Rest) (f : Follows r) → Ends f.1 → Ends r
  follow r f e = (cons f.0 e.0, more f.2 e.1)

  follows : (r : Rest) → goes_on r ≡ true → Follows r
  follows Rest.Top g = by_leaf Rest.Top _ Kind.Module refl refl
  follows Rest.Done g = absurd (false≢true g)
  follows Rest.Item g = by_leaf Rest.Item _ Kind.Block refl refl
  follows Rest.Idents g = by_leaf Rest.Idents _ Kind.Id refl refl
  follows Rest.Exported g = (var, Rest.Done, var-formed Rest.Exported Rest.Done refl)
  follows Rest.NameOrNone g = by_leaf Rest.NameOrNone _ Kind.Id refl refl
  follows Rest.Name g = by_leaf Rest.Name _ Kind.Id refl refl
  follows Rest.Params g = by_leaf Rest.Params _ Kind.Block refl refl
  follows Rest.FirstDecl g = (decl, Rest.Decls, decl-formed Rest.FirstDecl Rest.Decls refl)
  follows Rest.Decls g = (decl, Rest.Decls, decl-formed Rest.Decls Rest.Decls refl)
  follows Rest.Then g = by_leaf Rest.Then _ Kind.Block refl refl
  follows Rest.Else g = by_leaf Rest.Else _ Kind.Block refl refl
  follows Rest.Statements g = by_leaf Rest.Statements _ Kind.Block refl refl
  follows Rest.NameObject g = by_leaf Rest.NameObject _ Kind.Id refl refl
  follows Rest.Property g = by_leaf Rest.Property _ Kind.Prop refl refl
  follows Rest.Target g = by_leaf Rest.Target _ Kind.Id refl refl
  follows Rest.Element g = by_leaf Rest.Element _ Kind.Id refl refl
  follows Rest.Patterns g = by_leaf Rest.Patterns _ Kind.Id refl refl
  follows Rest.Defaulted g = by_leaf Rest.Defaulted _ Kind.Id refl refl
  follows Rest.Declared g = by_leaf Rest.Declared _ Kind.Id refl refl
  follows r g = by_leaf r _ Kind.Lit refl refl

  ends : (r : Rest) → r ≢ Rest.Item → Ends r
  unfolding follows by_leaf
  ends Rest.Top h = follow Rest.Top (follows Rest.Top refl) (stop Rest.Done refl)
  ends Rest.Item h = absurd (h refl)
  ends Rest.Exported h = follow Rest.Exported (follows Rest.Exported refl) (stop Rest.Done refl)
  ends Rest.NameOrNone h = follow Rest.NameOrNone (follows Rest.NameOrNone refl) (follow Rest.Params (follows Rest.Params refl) (stop Rest.Done refl))
  ends Rest.Name h = follow Rest.Name (follows Rest.Name refl) (follow Rest.Params (follows Rest.Params refl) (stop Rest.Done refl))
  ends Rest.Params h = follow Rest.Params (follows Rest.Params refl) (stop Rest.Done refl)
  ends Rest.Expr h = follow Rest.Expr (follows Rest.Expr refl) (stop Rest.Done refl)
  ends Rest.FirstDecl h = follow Rest.FirstDecl (follows Rest.FirstDecl refl) (stop Rest.Decls refl)
  ends Rest.Test h = follow Rest.Test (follows Rest.Test refl) (follow Rest.Then (follows Rest.Then refl) (stop Rest.Else refl))
  ends Rest.Then h = follow Rest.Then (follows Rest.Then refl) (stop Rest.Else refl)
  ends Rest.Callee h = follow Rest.Callee (follows Rest.Callee refl) (stop Rest.Exprs refl)
  ends Rest.Tag h = follow Rest.Tag (follows Rest.Tag refl) (stop Rest.Exprs refl)
  ends Rest.Object h = follow Rest.Object (follows Rest.Object refl) (follow Rest.Property (follows Rest.Property refl) (stop Rest.Done refl))
  ends Rest.NameObject h = follow Rest.NameObject (follows Rest.NameObject refl) (follow Rest.Property (follows Rest.Property refl) (stop Rest.Done refl))
  ends Rest.Property h = follow Rest.Property (follows Rest.Property refl) (stop Rest.Done refl)
  ends Rest.Operand h = follow Rest.Operand (follows Rest.Operand refl) (stop Rest.Second refl)
  ends Rest.Target h = follow Rest.Target (follows Rest.Target refl) (follow Rest.Expr (follows Rest.Expr refl) (stop Rest.Done refl))
  ends Rest.Arrow h = follow Rest.Arrow (follows Rest.Arrow refl) (stop Rest.Done refl)
  ends Rest.Element h = follow Rest.Element (follows Rest.Element refl) (stop Rest.Attrs refl)
  ends Rest.Defaulted h = follow Rest.Defaulted (follows Rest.Defaulted refl) (follow Rest.Expr (follows Rest.Expr refl) (stop Rest.Done refl))
  ends Rest.Declared h = follow Rest.Declared (follows Rest.Declared refl) (stop Rest.MaybeExpr refl)
  ends r h = stop r refl

pub goes_on_lem : GoesOn
goes_on_lem = follows

pub completable : Completable
completable = ends

is_item : Rest → Bool
is_item Rest.Item = true
is_item r = false

apart : (r : Rest) → is_item r ≡ false → r ≢ Rest.Item
unfolding is_item
apart r h e = true≢false (sym (ap is_item e) ∙ h)

function_apart : (n : Word) → is_item (by_name n) ≡ false
unfolding is_item
function_apart Word.Bare = refl
function_apart n = refl

member_apart : (r : Rest) (n : Word) → is_item (opening (member_object r) n) ≡ false
unfolding is_item
member_apart Rest.Top n = refl
member_apart r n = refl

inside_apart : (r : Rest) (k : Kind) (n : Word) → is_item (opening (inside r k) n) ≡ false
unfolding is_item
inside_apart r Kind.Module n = refl
inside_apart r Kind.Deffn n = function_apart n
inside_apart r Kind.Member n = member_apart r n
inside_apart r Kind.Fn n = function_apart n
inside_apart r k n = refl

when_apart : (b : Bool) (a r : Rest) → is_item a ≡ false → when b a ≡ Some r → is_item r ≡ false
unfolding is_item
when_apart b a r h e = subst (λ x. is_item x ≡ false) (when_some b a r e).1 h

cond_apart : (b : Bool) (a r : Rest) (o : Option Rest) → cond b (Some a) o ≡ Some r → is_item a ≡ false → (o ≡ Some r → is_item r ≡ false) → is_item r ≡ false
cond_apart b a r o e h k = by (cond_some b a r o e)
  where
    by : ((b ≡ true) × (a ≡ r)) ⊎ (o ≡ Some r) → is_item r ≡ false
    by (inl x) = subst (λ y. is_item y ≡ false) x.1 h
    by (inr x) = k x

arrow_apart : (g : Group) (r : Rest) → arrow_part g ≡ Some r → is_item r ≡ false
unfolding is_item
arrow_apart g r e = cond_apart (belongs Sort.Ident g) Rest.ArrowOrBody r _ e refl (λ f. cond_apart (belongs Sort.Pattern g) Rest.Arrow r _ f refl (when_apart (belongs Sort.Body g) Rest.Done r refl))

after_apart : (r r' : Rest) (g : Group) → after r g ≡ Some r' → is_item r ≡ false → is_item r' ≡ false
unfolding is_item
after_apart Rest.Done r' g e h = absurd (none-some _ e)
after_apart Rest.Item r' g e h = absurd (true≢false h)
after_apart Rest.Params r' g e h = cond_apart (belongs Sort.Block g) Rest.Done r' _ e refl (when_apart _ Rest.Params r' refl)
after_apart Rest.Arrow r' g e h = arrow_apart g r' e
after_apart Rest.ArrowOrBody r' g e h = arrow_apart g r' e
after_apart Rest.Attrs r' g e h = cond_apart (belongs Sort.Attr g) Rest.Attrs r' _ e refl (when_apart _ Rest.Exprs r' refl)
after_apart r r' g e h = when_apart _ _ r' refl e

told : (r : Rest) → r ≢ Rest.Item → is_item r ≡ false
unfolding is_item
told Rest.Item h = absurd (h refl)
told r h = refl

pub items_apart : ItemsApart
items_apart = record { within = λ r k n. apart (opening (inside r k) n) (inside_apart r k n); onward = λ r r' g e h. apart r' (after_apart r r' g e (told r h)) }
