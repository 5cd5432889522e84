-- Small facts about the states of a form that is being read.
use Rattle.std.proofs.Common.{◌≡◌, ℕ, true, false, Some, None, Option, sym, refl, ap, arith}
use Rattle.std.proofs.lemmas.Bool.{false≢true, true≢false}
use Rattle.tables.specs.declared.kind.Kind.{Kind}
use Rattle.tables.specs.declared.kind.Word.{Word}
use Rattle.grammar.specs.declared.group.Group.{Group}
use Rattle.grammar.specs.declared.rest.Rest.{Rest}
use Rattle.grammar.specs.Labels.{label_of}
use Rattle.grammar.specs.Readings.{by_name, opening}
use Rattle.grammar.specs.Rests.{after, inside, may_dash, closes}
use Rattle.grammar.proofs.Sound.{when_some}
use Rattle.form.proofs.Toks.{is_function}

pub no_some : {a : Rest} → ◌≡◌ {A = Option Rest} None (Some a) → ⊥
no_some e = let z : ◌≡◌ {A = ℕ} 0 1 = cc in omega arith

some_same : {a b : Rest} → ◌≡◌ {A = Option Rest} (Some a) (Some b) → a ≡ b
some_same e = cc

-- `-` may stand only where the parts of a function begin
pub after-plain : (r : Rest) (g : Group) (r' : Rest) → after r g ≡ Some r' → may_dash r' ≡ false
after-plain Rest.Top g r' e = ap may_dash (sym (when_some _ _ _ e).1)
after-plain Rest.Done g r' e = absurd (no_some e)
after-plain Rest.Item g r' e = ap may_dash (sym (when_some _ _ _ e).1)
after-plain Rest.Idents g r' e = ap may_dash (sym (when_some _ _ _ e).1)
after-plain Rest.Exported g r' e = ap may_dash (sym (when_some _ _ _ e).1)
after-plain Rest.NameOrNone g r' e = ap may_dash (sym (when_some _ _ _ e).1)
after-plain Rest.Name g r' e = ap may_dash (sym (when_some _ _ _ e).1)
after-plain Rest.Params Group.Module r' e = absurd (no_some e)
after-plain Rest.Params Group.Item r' e = absurd (no_some e)
after-plain Rest.Params Group.Statement r' e = absurd (no_some e)
after-plain Rest.Params Group.Declaration r' e = absurd (no_some e)
after-plain Rest.Params Group.Block r' e = ap may_dash (sym (some_same e))
after-plain Rest.Params Group.Ident r' e = ap may_dash (sym (some_same e))
after-plain Rest.Params Group.Member r' e = absurd (no_some e)
after-plain Rest.Params Group.Expression r' e = absurd (no_some e)
after-plain Rest.Params Group.Pattern r' e = ap may_dash (sym (some_same e))
after-plain Rest.Params Group.Decl r' e = absurd (no_some e)
after-plain Rest.Params Group.Prop r' e = absurd (no_some e)
after-plain Rest.Params Group.Attr r' e = absurd (no_some e)
after-plain Rest.Params Group.Kwimport r' e = absurd (no_some e)
after-plain Rest.Params Group.Made r' e = absurd (no_some e)
after-plain Rest.Expr g r' e = ap may_dash (sym (when_some _ _ _ e).1)
after-plain Rest.MaybeExpr g r' e = ap may_dash (sym (when_some _ _ _ e).1)
after-plain Rest.FirstDecl g r' e = ap may_dash (sym (when_some _ _ _ e).1)
after-plain Rest.Decls g r' e = ap may_dash (sym (when_some _ _ _ e).1)
after-plain Rest.Test g r' e = ap may_dash (sym (when_some _ _ _ e).1)
after-plain Rest.Then g r' e = ap may_dash (sym (when_some _ _ _ e).1)
after-plain Rest.Else g r' e = ap may_dash (sym (when_some _ _ _ e).1)
after-plain Rest.Statements g r' e = ap may_dash (sym (when_some _ _ _ e).1)
after-plain Rest.Exprs g r' e = ap may_dash (sym (when_some _ _ _ e).1)
after-plain Rest.Callee g r' e = ap may_dash (sym (when_some _ _ _ e).1)
after-plain Rest.Tag g r' e = ap may_dash (sym (when_some _ _ _ e).1)
after-plain Rest.Object g r' e = ap may_dash (sym (when_some _ _ _ e).1)
after-plain Rest.NameObject g r' e = ap may_dash (sym (when_some _ _ _ e).1)
after-plain Rest.Property g r' e = ap may_dash (sym (when_some _ _ _ e).1)
after-plain Rest.Operand g r' e = ap may_dash (sym (when_some _ _ _ e).1)
after-plain Rest.Second g r' e = ap may_dash (sym (when_some _ _ _ e).1)
after-plain Rest.Target g r' e = ap may_dash (sym (when_some _ _ _ e).1)
after-plain Rest.Arrow Group.Module r' e = absurd (no_some e)
after-plain Rest.Arrow Group.Item r' e = absurd (no_some e)
after-plain Rest.Arrow Group.Statement r' e = absurd (no_some e)
after-plain Rest.Arrow Group.Declaration r' e = absurd (no_some e)
after-plain Rest.Arrow Group.Block r' e = ap may_dash (sym (some_same e))
after-plain Rest.Arrow Group.Ident r' e = ap may_dash (sym (some_same e))
after-plain Rest.Arrow Group.Member r' e = ap may_dash (sym (some_same e))
after-plain Rest.Arrow Group.Expression r' e = ap may_dash (sym (some_same e))
after-plain Rest.Arrow Group.Pattern r' e = ap may_dash (sym (some_same e))
after-plain Rest.Arrow Group.Decl r' e = absurd (no_some e)
after-plain Rest.Arrow Group.Prop r' e = absurd (no_some e)
after-plain Rest.Arrow Group.Attr r' e = absurd (no_some e)
after-plain Rest.Arrow Group.Kwimport r' e = absurd (no_some e)
after-plain Rest.Arrow Group.Made r' e = absurd (no_some e)
after-plain Rest.ArrowOrBody Group.Module r' e = absurd (no_some e)
after-plain Rest.ArrowOrBody Group.Item r' e = absurd (no_some e)
after-plain Rest.ArrowOrBody Group.Statement r' e = absurd (no_some e)
after-plain Rest.ArrowOrBody Group.Declaration r' e = absurd (no_some e)
after-plain Rest.ArrowOrBody Group.Block r' e = ap may_dash (sym (some_same e))
after-plain Rest.ArrowOrBody Group.Ident r' e = ap may_dash (sym (some_same e))
after-plain Rest.ArrowOrBody Group.Member r' e = ap may_dash (sym (some_same e))
after-plain Rest.ArrowOrBody Group.Expression r' e = ap may_dash (sym (some_same e))
after-plain Rest.ArrowOrBody Group.Pattern r' e = ap may_dash (sym (some_same e))
after-plain Rest.ArrowOrBody Group.Decl r' e = absurd (no_some e)
after-plain Rest.ArrowOrBody Group.Prop r' e = absurd (no_some e)
after-plain Rest.ArrowOrBody Group.Attr r' e = absurd (no_some e)
after-plain Rest.ArrowOrBody Group.Kwimport r' e = absurd (no_some e)
after-plain Rest.ArrowOrBody Group.Made r' e = absurd (no_some e)
after-plain Rest.Element g r' e = ap may_dash (sym (when_some _ _ _ e).1)
after-plain Rest.Attrs Group.Module r' e = absurd (no_some e)
after-plain Rest.Attrs Group.Item r' e = absurd (no_some e)
after-plain Rest.Attrs Group.Statement r' e = absurd (no_some e)
after-plain Rest.Attrs Group.Declaration r' e = absurd (no_some e)
after-plain Rest.Attrs Group.Block r' e = absurd (no_some e)
after-plain Rest.Attrs Group.Ident r' e = ap may_dash (sym (some_same e))
after-plain Rest.Attrs Group.Member r' e = ap may_dash (sym (some_same e))
after-plain Rest.Attrs Group.Expression r' e = ap may_dash (sym (some_same e))
after-plain Rest.Attrs Group.Pattern r' e = absurd (no_some e)
after-plain Rest.Attrs Group.Decl r' e = absurd (no_some e)
after-plain Rest.Attrs Group.Prop r' e = absurd (no_some e)
after-plain Rest.Attrs Group.Attr r' e = ap may_dash (sym (some_same e))
after-plain Rest.Attrs Group.Kwimport r' e = absurd (no_some e)
after-plain Rest.Attrs Group.Made r' e = absurd (no_some e)
after-plain Rest.Patterns g r' e = ap may_dash (sym (when_some _ _ _ e).1)
after-plain Rest.Defaulted g r' e = ap may_dash (sym (when_some _ _ _ e).1)
after-plain Rest.Declared g r' e = ap may_dash (sym (when_some _ _ _ e).1)

by_name_lem : (w : Word) → may_dash (by_name w) ≡ false
by_name_lem Word.Bare = refl
by_name_lem n = refl

pub opening-plain : (r : Rest) (w : Word) → may_dash (opening r w) ≡ false
opening-plain Rest.NameOrNone w = by_name_lem w
opening-plain r w = refl

pub opening-same : (r : Rest) (w : Word) → may_dash r ≡ false → opening r w ≡ r
opening-same Rest.NameOrNone w e = absurd (true≢false e)
opening-same r w e = refl

pub ends-plain : (r : Rest) → closes r ≡ true → may_dash r ≡ false
ends-plain Rest.NameOrNone e = absurd (false≢true e)
ends-plain r e = refl

pub dash_only : (r : Rest) → may_dash r ≡ true → r ≡ Rest.NameOrNone
dash_only Rest.NameOrNone e = refl
dash_only r e = absurd (false≢true e)

member_dash : (r : Rest) → may_dash (inside r Kind.Member) ≡ false
member_dash Rest.Top = refl
member_dash r = refl

pub inside-dash : (r : Rest) (k : Kind) → may_dash (inside r k) ≡ is_function (label_of k)
inside-dash r Kind.Member = member_dash r
inside-dash r k = refl

pub inside_name : (k : Kind) → inside Rest.NameOrNone k ≡ inside Rest.Name k
inside_name Kind.Module = refl
inside_name k = refl

pub after-made : (r : Rest) → after r Group.Made ≡ None
after-made Rest.Top = refl
after-made r = refl
