-- What the forms of a module that is read say: what their labels ask for, and no label is one of a made form.
use Rattle.std.proofs.Common.{◌≡◌, ℕ, Some, None, Option, sym, refl, ◌∙◌, subst, arith}
use Rattle.tables.specs.declared.kind.Kind.{Kind}
use Rattle.grammar.specs.declared.group.Group.{Group}
use Rattle.grammar.specs.declared.label.Label.{Label}
use Rattle.grammar.specs.declared.rest.Rest.{Rest}
use Rattle.grammar.specs.Forms.{Says, Form, form, Forms, nil, cons}
use Rattle.grammar.specs.Groups.{group}
use Rattle.grammar.specs.Labels.{label_of}
use Rattle.grammar.specs.Parts.{Said, Proper}
use Rattle.grammar.specs.Readings.{Formed, formed, Reads, last, more, Items, end, item}
use Rattle.grammar.specs.Rests.{after}

-- what a form says by its label; made forms are not read
abbrev pub Asked : Label → Says → Type 0
Asked Label.None s = Said Label.None s
Asked Label.Ident s = Said Label.Ident s
Asked Label.Name s = Said Label.Name s
Asked Label.Scope s = Said Label.Scope s
Asked Label.Variables s = Said Label.Variables s
Asked Label.Function s = Said Label.Function s
Asked l s = ⊥

abbrev mutual
  pub AllAsked : Form → Type 0
  AllAsked (form s fs) = Asked (label_of s.kind) s × AllsAsked fs

  pub AllsAsked : Forms → Type 0
  AllsAsked nil = Unit {0}
  AllsAsked (cons t fs) = AllAsked t × AllsAsked fs

-- a made form stands nowhere
made-nowhere : (r : Rest) → after r Group.Made ≡ None
made-nowhere Rest.Top = refl
made-nowhere r = refl

none-some : {r : Rest} → ◌≡◌ {A = Option Rest} None (Some r) → ⊥
none-some e =
    let z : ◌≡◌ {A = ℕ} 0 1 = cc in
    omega arith

made_read : {X : Type 0} (r r' : Rest) → after r Group.Made ≡ Some r' → X
made_read r r' e = absurd (none-some (sym (made-nowhere r) ∙ e))

asked-kind : (k : Kind) (r r' : Rest) (s : Says) → after r (group k) ≡ Some r' → Said (label_of k) s → Asked (label_of k) s
asked-kind Kind.Hand r r' s e h = made_read r r' e
asked-kind Kind.Str r r' s e h = made_read r r' e
asked-kind Kind.Bool r r' s e h = made_read r r' e
asked-kind k r r' s e h = h

mutual
  pub form-asked : {limit : ℕ} {r r' : Rest} (t : Form) → Formed limit r t r' → AllAsked t
  form-asked (form s fs) (formed {r} {r'} e p f) = (asked-kind s.kind r r' s e p.said, reads_asked fs f)

  pub reads_asked : {limit : ℕ} {r : Rest} (fs : Forms) → Reads limit r fs → AllsAsked fs
  reads_asked nil (last e) = tt
  reads_asked (cons t fs) (more f rest) = (form-asked t f, reads_asked fs rest)

pub items_asked : {limit : ℕ} (fs : Forms) → Items limit fs → AllsAsked fs
items_asked nil end = tt
items_asked (cons t fs) (item f rest) = (form-asked t f, items_asked fs rest)

-- a module and its items
pub module_asked : {limit : ℕ} (s : Says) (items : Forms) → s.kind ≡ Kind.Module → Proper limit s → Items limit items → AllAsked (form s items)
module_asked s items k p i =
    let h : Said Label.None s = subst (λ x. Said (label_of x) s) k p.said in
    (subst (λ x. Asked (label_of x) s) (sym k) h, items_asked items i)
