-- The text of a module and its tokens.
use Rattle.std.proofs.Common.{◌≡◌, ℕ, ◌^◌, ◌<◌, Bool, true, false, List, [], ◌∷◌, ◌++◌, Some, None, decimal, sym, refl, ap, ◌∙◌, subst, append_assoc, append-nil, arith}
use Rattle.std.proofs.lemmas.Bool.{false≢true}
use Rattle.tables.specs.declared.kind.Kind.{Kind}
use Rattle.tables.specs.declared.kind.Word.{Word}
use Rattle.lex.specs.Tokens.{Tok, opens, closes, feed, run, end}
use Rattle.lex.specs.Texts.{tokens, plainly, spelling}
use Rattle.lex.proofs.Spelling.{NoFoul}
use Rattle.lex.proofs.Spaced.{Lone, Breaks, Spaced, read_back, lone_number, lone_name}
use Rattle.grammar.specs.declared.group.Group.{Group}
use Rattle.grammar.specs.declared.label.Label.{Label}
use Rattle.grammar.specs.declared.rest.Rest.{Rest}
use Rattle.grammar.specs.Forms.{Says, Form, form, Forms, nil, cons, dash, label, head, written, parts, lines, printed}
use Rattle.grammar.specs.Groups.{group}
use Rattle.grammar.specs.Labels.{label_of}
use Rattle.grammar.specs.Parts.{Proper, Said, says_variables}
use Rattle.grammar.specs.Readings.{Formed, formed, Reads, last, more, Items, item}
use Rattle.grammar.specs.Readings as readings
use Rattle.grammar.specs.Rests.{after}
use Rattle.grammar.specs.Words.{word_of, text_of}
use Rattle.reader.specs.declared.mode.Field.{Field}
use Rattle.form.proofs.Toks.{due_span, due, field_toks, is_function, dash_toks, dashed, toks, part_toks, line_toks, module_toks}

-- what the forms say that a text may have
abbrev Loaded : Label → Type 0
Loaded Label.Handle = ⊥
Loaded Label.Text = ⊥
Loaded Label.Truth = ⊥
Loaded l = Unit {0}

-- a form that the pass makes may stand nowhere
made-nowhere : (r : Rest) → after r Group.Made ≡ None
made-nowhere Rest.Top = refl
made-nowhere r = refl

not_made : (r r' : Rest) → after r Group.Made ≡ Some r' → ⊥
not_made r r' e = let n = made-nowhere r in let z : ◌≡◌ {A = ℕ} 0 1 = cc in omega arith

loaded : (k : Kind) (r r' : Rest) → after r (group k) ≡ Some r' → Loaded (label_of k)
loaded Kind.Hand r r' e = absurd (not_made r r' e)
loaded Kind.Str r r' e = absurd (not_made r r' e)
loaded Kind.Bool r r' e = absurd (not_made r r' e)
loaded k r r' e = tt

dash-spelled : (w : Word) (ts : List Tok) → spelling (dash_toks w ts) ≡ dash w ++ spelling ts
dash-spelled Word.Bare ts = refl
dash-spelled n ts = refl

label-spelled : (l : Label) (s : Says) (ts : List Tok) → Loaded l → spelling (field_toks (due_span l) s (dashed (is_function l) s.word ts)) ≡ label l s ++ spelling ts
label-spelled Label.Ident s ts h = sym (append_assoc (32 ∷ s.name) (32 ∷ decimal s.scope) (spelling ts))
label-spelled Label.Function s ts h = dash-spelled s.word ts
label-spelled Label.Handle s ts h = absurd h
label-spelled Label.Text s ts h = absurd h
label-spelled Label.Truth s ts h = absurd h
label-spelled l s ts h = refl

-- from the bracket to the first part
abbrev head_toks : Says → List Tok → List Tok
head_toks s ts = opens ∷ run (word_of s.kind) ∷ field_toks (due (label_of s.kind) Field.Lo) s (dashed (is_function (label_of s.kind)) s.word ts)

four : (a b c d x : List ℕ) → a ++ (b ++ (c ++ (d ++ x))) ≡ (a ++ (b ++ (c ++ d))) ++ x
four a b c d x = simp append_assoc

head-spelled : (s : Says) (ts : List Tok) → Loaded (label_of s.kind) → spelling (head_toks s ts) ≡ 40 ∷ (head s ++ spelling ts)
head-spelled s ts h =
    ap (λ x. 40 ∷ (word_of s.kind ++ ((32 ∷ decimal s.span.lo) ++ ((32 ∷ decimal s.span.hi) ++ x)))) (label-spelled (label_of s.kind) s ts h)
    ∙ ap (λ x. 40 ∷ x) (four (word_of s.kind) (32 ∷ decimal s.span.lo) (32 ∷ decimal s.span.hi) (label (label_of s.kind) s) (spelling ts))

mutual
  form-spelled : (limit : ℕ) (r r' : Rest) (t : Form) (ts : List Tok) → Formed limit r t r' → spelling (toks t ts) ≡ written t ++ spelling ts
  form-spelled limit r r' (form s fs) ts (formed a p q) =
      head-spelled s (part_toks fs (closes ∷ ts)) (loaded s.kind r r' a)
      ∙ ap (λ x. 40 ∷ (head s ++ x)) (parts-spelled limit _ fs (closes ∷ ts) q)
      ∙ ap (λ x. 40 ∷ x) (sym (append_assoc (head s) (parts fs ++ (41 ∷ [])) (spelling ts) ∙ ap (λ x. head s ++ x) (append_assoc (parts fs) (41 ∷ []) (spelling ts))))

  parts-spelled : (limit : ℕ) (r : Rest) (fs : Forms) (ts : List Tok) → Reads limit r fs → spelling (part_toks fs ts) ≡ parts fs ++ spelling ts
  parts-spelled limit r nil ts (last c) = refl
  parts-spelled limit r (cons t fs) ts (more {r' = r'} f q) =
      ap (λ x. 32 ∷ x) (form-spelled limit r r' t (part_toks fs ts) f ∙ ap (λ x. written t ++ x) (parts-spelled limit r' fs ts q) ∙ sym (append_assoc (written t) (parts fs) (spelling ts)))

lines-spelled : (limit : ℕ) (fs : Forms) (ts : List Tok) → Items limit fs → spelling (line_toks fs ts) ≡ lines fs ++ spelling ts
lines-spelled limit nil ts readings.end = refl
lines-spelled limit (cons t fs) ts (item f q) =
    form-spelled limit Rest.Item Rest.Item t (feed ∷ line_toks fs ts) f
    ∙ ap (λ x. written t ++ (10 ∷ x)) (lines-spelled limit fs ts q)
    ∙ sym (append_assoc (written t) (10 ∷ lines fs) (spelling ts))

-- the tokens of a module spell what is printed of it
pub spelled : (limit : ℕ) (s : Says) (items : Forms) → s.kind ≡ Kind.Module → Proper limit s → Items limit items → spelling (module_toks (form s items)) ≡ printed (form s items)
spelled limit s items k p q =
    head-spelled s (closes ∷ feed ∷ line_toks items (end ∷ [])) (subst (λ j. Loaded (label_of j)) (sym k) tt)
    ∙ ap (λ x. 40 ∷ (head s ++ (41 ∷ 10 ∷ x))) (lines-spelled limit items (end ∷ []) q ∙ append-nil (lines items))

-- tokens that may follow a run
abbrev After : List Tok → Type 0
After ts = Breaks ts × Spaced ts

lone_kind : (k : Kind) → Lone (word_of k)
lone_kind Kind.Module = record { some = omega arith; lawfully = refl }
lone_kind k = record { some = omega arith; lawfully = refl }

lone_variables : (w : Word) → says_variables w ≡ true → Lone (text_of w)
lone_variables Word.Var h = record { some = omega arith; lawfully = refl }
lone_variables Word.Let h = record { some = omega arith; lawfully = refl }
lone_variables Word.Const h = record { some = omega arith; lawfully = refl }
lone_variables n h = absurd (false≢true h)

dash-after : (w : Word) (ts : List Tok) → After ts → After (dash_toks w ts)
dash-after Word.Bare ts a = (tt, (record { some = omega arith; lawfully = refl }, a.0, a.1))
dash-after n ts a = a

label_after : (l : Label) (s : Says) (ts : List Tok) → Said l s → After ts → After (field_toks (due_span l) s (dashed (is_function l) s.word ts))
label_after Label.Ident s ts h a = (tt, (lone_name s.name h.3, tt, (lone_number s.scope (omega (arith, h.1)), a.0, a.1)))
label_after Label.Name s ts h a = (tt, (lone_name s.name h.3, a.0, a.1))
label_after Label.Scope s ts h a = (tt, (lone_number s.scope (omega (arith, h.1)), a.0, a.1))
label_after Label.Variables s ts h a = (tt, (lone_variables s.word h.0, a.0, a.1))
label_after Label.Function s ts h a = dash-after s.word ts a
label_after l s ts h a = a

head-after : (limit : ℕ) (s : Says) (ts : List Tok) → limit < 2 ^ 32 → Proper limit s → After ts → After (head_toks s ts)
head-after limit s ts w p a =
    let q = label_after (label_of s.kind) s ts p.said a in
    let hi : s.span.hi < 2 ^ 64 = omega (arith, p.placed.1) in
    let lo : s.span.lo < 2 ^ 64 = omega (arith, p.placed.0) in
    (tt, (lone_kind s.kind, tt, (lone_number s.span.lo lo, tt, (lone_number s.span.hi hi, q.0, q.1))))

mutual
  form-after : (limit : ℕ) (r r' : Rest) (t : Form) (ts : List Tok) → limit < 2 ^ 32 → Formed limit r t r' → After ts → After (toks t ts)
  form-after limit r r' (form s fs) ts w (formed f p q) a = head-after limit s (part_toks fs (closes ∷ ts)) w p (parts-after limit _ fs (closes ∷ ts) w q (tt, a.1))

  parts-after : (limit : ℕ) (r : Rest) (fs : Forms) (ts : List Tok) → limit < 2 ^ 32 → Reads limit r fs → After ts → After (part_toks fs ts)
  parts-after limit r nil ts w (last c) a = a
  parts-after limit r (cons t fs) ts w (more {r' = r'} f q) a = (tt, (form-after limit r r' t (part_toks fs ts) w f (parts-after limit r' fs ts w q a)).1)

lines_after : (limit : ℕ) (fs : Forms) (ts : List Tok) → limit < 2 ^ 32 → Items limit fs → After ts → After (line_toks fs ts)
lines_after limit nil ts w readings.end a = a
lines_after limit (cons t fs) ts w (item f q) a = form-after limit Rest.Item Rest.Item t (feed ∷ line_toks fs ts) w f (tt, (lines_after limit fs ts w q a).1)

-- the tokens of what is printed of a module
pub tokens_of : (limit : ℕ) (s : Says) (items : Forms) → limit < 2 ^ 32 → s.kind ≡ Kind.Module → Proper limit s → Items limit items → plainly (tokens 0 (printed (form s items))) ≡ module_toks (form s items)
tokens_of limit s items w k p q =
    let rest : After (closes ∷ feed ∷ line_toks items (end ∷ [])) = (tt, (lines_after limit items (end ∷ []) w q (tt, refl)).1) in
    ap (λ x. plainly (tokens 0 x)) (sym (spelled limit s items k p q)) ∙ read_back 0 (module_toks (form s items)) (head-after limit s (closes ∷ feed ∷ line_toks items (end ∷ [])) w p rest).1

clean_fields : (fs : List Field) (s : Says) (ts : List Tok) → NoFoul ts → NoFoul (field_toks fs s ts)
clean_fields [] s ts n = n
clean_fields (f ∷ fs) s ts n = clean_fields fs s ts n

clean_dash : (w : Word) (ts : List Tok) → NoFoul ts → NoFoul (dash_toks w ts)
clean_dash Word.Bare ts n = n
clean_dash n' ts n = n

clean_dashed : (b : Bool) (w : Word) (ts : List Tok) → NoFoul ts → NoFoul (dashed b w ts)
clean_dashed false w ts n = n
clean_dashed true w ts n = clean_dash w ts n

mutual
  clean_form : (t : Form) (ts : List Tok) → NoFoul ts → NoFoul (toks t ts)
  clean_form (form s fs) ts n = clean_fields (due (label_of s.kind) Field.Lo) s (dashed (is_function (label_of s.kind)) s.word (part_toks fs (closes ∷ ts))) (clean_dashed (is_function (label_of s.kind)) s.word (part_toks fs (closes ∷ ts)) (clean_parts fs (closes ∷ ts) n))

  clean_parts : (fs : Forms) (ts : List Tok) → NoFoul ts → NoFoul (part_toks fs ts)
  clean_parts nil ts n = n
  clean_parts (cons t fs) ts n = clean_form t (part_toks fs ts) (clean_parts fs ts n)

clean_lines : (fs : Forms) (ts : List Tok) → NoFoul ts → NoFoul (line_toks fs ts)
clean_lines nil ts n = n
clean_lines (cons t fs) ts n = clean_form t (feed ∷ line_toks fs ts) (clean_lines fs ts n)

-- the tokens of a module are not foul
pub no_foul : (m : Form) → NoFoul (module_toks m)
no_foul (form s items) = clean_form (form s nil) (feed ∷ line_toks items (end ∷ [])) (clean_lines items (end ∷ []) tt)
