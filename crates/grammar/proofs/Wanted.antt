-- What each state of the reader still wants, in terms of the table of parts.
use Rattle.std.proofs.Common.{◌≡◌, ℕ, true, false, ◌⊎◌, List, [], ◌∷◌, sym, refl, ap, ◌∙◌, true≢false}
use Rattle.tables.specs.declared.kind.Kind.{Kind}
use Rattle.tables.specs.declared.kind.Word.{Word}
use Rattle.grammar.specs.declared.group.Group.{Group}
use Rattle.grammar.specs.declared.group.Sort.{Sort}
use Rattle.grammar.specs.declared.rest.Rest.{Rest}
use Rattle.grammar.specs.Groups.{group, belongs}
use Rattle.grammar.specs.Forms.{Form, form, Forms, nil}
use Rattle.grammar.specs.Parts.{Part, one, maybe, many, object, named, parts, Fit}
use Rattle.grammar.specs.Rests.{inside, member_object}
use Rattle.grammar.specs.Readings.{opening, by_name}

-- the parts that a state stands before
abbrev pub left : Rest → List Part
left Rest.Top = one Sort.Module ∷ []
left Rest.Done = []
left Rest.Item = many Sort.Item ∷ []
left Rest.Idents = many Sort.Ident ∷ []
left Rest.Exported = one Sort.Exported ∷ []
left Rest.NameOrNone = one Sort.Ident ∷ many Sort.Pattern ∷ one Sort.Block ∷ []
left Rest.Name = one Sort.Ident ∷ many Sort.Pattern ∷ one Sort.Block ∷ []
left Rest.Params = many Sort.Pattern ∷ one Sort.Block ∷ []
left Rest.Expr = one Sort.Expression ∷ []
left Rest.MaybeExpr = maybe Sort.Expression ∷ []
left Rest.FirstDecl = one Sort.Decl ∷ many Sort.Decl ∷ []
left Rest.Decls = many Sort.Decl ∷ []
left Rest.Test = one Sort.Expression ∷ one Sort.Statement ∷ maybe Sort.Statement ∷ []
left Rest.Then = one Sort.Statement ∷ maybe Sort.Statement ∷ []
left Rest.Else = maybe Sort.Statement ∷ []
left Rest.Statements = many Sort.Statement ∷ []
left Rest.Exprs = many Sort.Expression ∷ []
left Rest.Callee = one Sort.Callee ∷ many Sort.Expression ∷ []
left Rest.Tag = one Sort.Expression ∷ many Sort.Expression ∷ []
left Rest.Object = one Sort.Expression ∷ one Sort.Prop ∷ []
left Rest.NameObject = one Sort.JsxName ∷ one Sort.Prop ∷ []
left Rest.Property = one Sort.Prop ∷ []
left Rest.Operand = one Sort.Expression ∷ maybe Sort.Expression ∷ maybe Sort.Expression ∷ []
left Rest.Second = maybe Sort.Expression ∷ maybe Sort.Expression ∷ []
left Rest.Target = one Sort.Target ∷ one Sort.Expression ∷ []
left Rest.Arrow = many Sort.Pattern ∷ one Sort.Body ∷ []
left Rest.ArrowOrBody = many Sort.Pattern ∷ one Sort.Body ∷ []
left Rest.Element = one Sort.JsxName ∷ many Sort.Attr ∷ many Sort.Expression ∷ []
left Rest.Attrs = many Sort.Attr ∷ many Sort.Expression ∷ []
left Rest.Patterns = many Sort.Pattern ∷ []
left Rest.Defaulted = one Sort.Pattern ∷ one Sort.Expression ∷ []
left Rest.Declared = one Sort.Pattern ∷ maybe Sort.Expression ∷ []

-- forms that may follow in a state; a module's items do not end by a bracket, and of the states outside every form q is said
abbrev pub Meant : (q : Type 0) (limit : ℕ) → Rest → Forms → Type 0
Meant q limit Rest.Top fs = q
Meant q limit Rest.Item fs = q
Meant q limit Rest.ArrowOrBody fs = Fit limit (left Rest.Arrow) fs ⊎ (fs ≡ nil)
Meant q limit r fs = Fit limit (left r) fs

-- a state at which a part of sort w may stand: a member there is of what the sort says
pub data Place : Rest → Sort → Type 0 where
  plain : {r : Rest} {w : Sort} → member_object r ≡ Rest.Object → object w ≡ Sort.Expression → belongs w Group.Module ≡ false → Place r w
  jsx : {r : Rest} {w : Sort} → member_object r ≡ Rest.NameObject → object w ≡ Sort.JsxName → belongs w Group.Module ≡ false → Place r w

abbrev pub group_of : Form → Group
group_of (form s fs) = group s.kind

module _ (q : Type 0) (limit : ℕ) (fs : Forms) where
  functions : (n : Word) → ◌≡◌ {A = Type 0} (Meant q limit (by_name n) fs) (Fit limit (named n (left Rest.Params)) fs)
  functions Word.Bare = refl
  functions n = refl

  members : (r : Rest) (w : Sort) (n : Word) → Place r w → ◌≡◌ {A = Type 0} (Meant q limit (opening (member_object r) n) fs) (Fit limit (one (object w) ∷ one Sort.Prop ∷ []) fs)
  members r w n (plain e f h) = ap (λ x. Meant q limit (opening x n) fs) e ∙ ap (λ x. Fit limit (one x ∷ one Sort.Prop ∷ []) fs) (sym f)
  members r w n (jsx e f h) = ap (λ x. Meant q limit (opening x n) fs) e ∙ ap (λ x. Fit limit (one x ∷ one Sort.Prop ∷ []) fs) (sym f)

  no_module : (r : Rest) (w : Sort) → Place r w → belongs w Group.Module ≡ true → ⊥
  no_module r w (plain e f h) b = true≢false (sym b ∙ h)
  no_module r w (jsx e f h) b = true≢false (sym b ∙ h)

  -- what stands in a form of a kind is the same by the reader's state and by the table
  pub same_parts : (r : Rest) (w : Sort) (n : Word) (k : Kind) → Place r w → belongs w (group k) ≡ true → ◌≡◌ {A = Type 0} (Meant q limit (opening (inside r k) n) fs) (Fit limit (parts w n k) fs)
  same_parts r w n Kind.Module p b = absurd (no_module r w p b)
  same_parts r w n Kind.Deffn p b = functions n
  same_parts r w n Kind.Member p b = members r w n p
  same_parts r w n Kind.Fn p b = functions n
  same_parts r w n k p b = refl
