-- The reader goes past every form that may stand where it is, and what it leaves in the tables is told by the form.
use Rattle.std.proofs.Common.{◌≡◌, ℕ, suc, ◌+◌, ◌^◌, ◌<◌, ◌≤◌, true, false, cond, List, [], ◌∷◌, length, Some, sym, refl, ap, ◌∙◌, subst, arith}
use Rattle.std.proofs.lemmas.Bool.{cond-true, lt-ltb, false≢true}
use Rattle.tables.specs.declared.kind.Kind.{Kind}
use Rattle.tables.specs.declared.kind.Word.{Word}
use Rattle.lex.specs.Tokens.{Tok, opens, closes, blank, feed, run}
use Rattle.grammar.specs.declared.group.Group.{Group}
use Rattle.grammar.specs.declared.label.Label.{Label}
use Rattle.grammar.specs.declared.rest.Rest.{Rest}
use Rattle.grammar.specs.Forms.{Says, Form, form, Forms}
use Rattle.grammar.specs.Groups.{group}
use Rattle.grammar.specs.Labels.{label_of}
use Rattle.grammar.specs.Parts.{Said, says_function}
use Rattle.grammar.specs.Readings.{opening, Formed, formed, Reads, last, more, Items, item}
use Rattle.grammar.specs.Readings as readings
use Rattle.grammar.specs.Rests.{after, inside, goes_on, may_dash, closes as mayEnd}
use Rattle.grammar.specs.Words.{word_of, kind_of}
use Rattle.reader.specs.declared.mode.Field.{Field}
use Rattle.reader.specs.declared.mode.Frame.{Frame}
use Rattle.reader.specs.declared.mode.Mode.{Mode}
use Rattle.reader.specs.Machine.{State, Step, go, step, framed, opened, worded, perhaps, called, called_in, closed_by, later, to}
use Rattle.form.specs.Depths.{depth, depths}
use Rattle.form.proofs.Toks.{due, field_toks, is_function, dashed, toks, part_toks, line_toks}
use Rattle.form.proofs.Tabs.{Tab, at, head_tab, named_tab, name_tab, close_tab, tab_form, tab_forms}
use Rattle.form.proofs.Past.{past, past_on}
use Rattle.form.proofs.States.{after-plain, opening-plain, opening-same, dash_only, inside-dash, inside_name, after-made, no_some}
use Rattle.form.proofs.Heads.{begun, Loadable, headed}

-- the tokens of a form after its first bracket
abbrev pub inner : Form → List Tok → List Tok
inner (form s fs) ts = run (word_of s.kind) ∷ field_toks (due (label_of s.kind) Field.Lo) s (dashed (is_function (label_of s.kind)) s.word (part_toks fs (closes ∷ ts)))

pub opens-inner : (t : Form) (ts : List Tok) → toks t ts ≡ opens ∷ inner t ts
opens-inner (form s fs) ts = refl

made_none : {P : Type 0} (r r' : Rest) → after r Group.Made ≡ Some r' → P
made_none r r' e = absurd (no_some (sym (after-made r) ∙ e))

-- what may stand somewhere can be loaded
pub loadable : (r r' : Rest) (k : Kind) → after r (group k) ≡ Some r' → Loadable (label_of k)
loadable r r' Kind.Hand e = made_none r r' e
loadable r r' Kind.Str e = made_none r r' e
loadable r r' Kind.Bool e = made_none r r' e
loadable r r' k e = tt

known : (k : Kind) → Loadable (label_of k) → kind_of (word_of k) ≡ Some k
unfolding kind_of
known Kind.Hand y = absurd y
known Kind.Str y = absurd y
known Kind.Bool y = absurd y
known k y = refl

pub after-goes : (r r' : Rest) (g : Group) → after r g ≡ Some r' → goes_on r ≡ true
after-goes Rest.Done r' g e = absurd (no_some e)
after-goes r r' g e = refl

formed-goes : {limit : ℕ} {r r' : Rest} {t : Form} → Formed limit r t r' → goes_on r ≡ true
formed-goes (formed {r = r} {r' = r'} {s = s} e p rd) = after-goes r r' (group s.kind) e

formed-plain : {limit : ℕ} {r r' : Rest} {t : Form} → Formed limit r t r' → may_dash r' ≡ false
formed-plain (formed {r = r} {r' = r'} {s = s} e p rd) = after-plain r (group s.kind) r' e

some_depth : (t : Form) → 0 < depth t
some_depth (form s fs) = omega arith

-- the reader's state is as good as another
pub record Like (r r₂ : Rest) : Type 0 where
  pub after : (g : Group) → after r₂ g ≡ after r g
  pub inside : (k : Kind) → inside r₂ k ≡ inside r k

pub alike : (r : Rest) → Like r r
alike r = record { after = λ g. refl; inside = λ k. refl }

named_like : Like Rest.Name Rest.NameOrNone
named_like = record { after = λ g. refl; inside = inside_name }

abbrev frame : ℕ → Rest → Frame
frame i r = record { at = i; later = r }

module _ (d limit : ℕ) (w32 : limit < 2 ^ 32) where
  -- the parts of a form, up to its end
  abbrev PartsPast : (m : Mode) → Forms → (List Tok → List Tok) → (Tab → ℕ → Tab) → Type 0
  PartsPast m fs before tab = (f : Frame) (st : List Frame) (τ : Tab) (ts : List Tok) → suc (length st) + depths fs ≤ d → past d limit (at m (f ∷ st) τ) (before (part_toks fs (closes ∷ ts))) ≡ past d limit (at (later f st) st (close_tab f.at (tab_forms fs (tab τ f.at)))) ts

  abbrev same_toks : List Tok → List Tok
  same_toks ts = ts

  abbrev same_tab : Tab → ℕ → Tab
  same_tab τ i = τ

  -- a kind that may stand here, with room for one bracket more
  kind-past : (r r₂ r' : Rest) (k : Kind) (st : List Frame) (τ : Tab) (ts : List Tok) → Like r r₂ → after r (group k) ≡ Some r' → length st < d
      → past d limit (at (Mode.Word r₂) st τ) (run (word_of k) ∷ ts) ≡ past d limit (at (Mode.Gap Field.Lo (inside r k)) (frame τ.count r' ∷ st) (begun k τ)) ts
  kind-past r r₂ r' k st τ ts like e deep =
      let s = at (Mode.Word r₂) st τ in
      past_on d limit s (framed s k (inside r₂ k) r') (run (word_of k)) ts
      (ap (λ o. perhaps 0 o (λ j. perhaps 0 (after r₂ (group j)) (λ l. opened d 0 s (go (framed s j (inside r₂ j) l))))) (known k (loadable r r' k e))
      ∙ ap (λ o. perhaps 0 o (λ l. opened d 0 s (go (framed s k (inside r₂ k) l)))) (like.after (group k) ∙ e)
      ∙ cond-true _ _ _ (lt-ltb (length st) d deep))
      ∙ ap (λ x. past d limit (at (Mode.Gap Field.Lo x) (frame τ.count r' ∷ st) (begun k τ)) ts) (like.inside k)

  -- a function's `-` or name
  function_past : (w : Word) (fs : Forms) → says_function w ≡ true → PartsPast (Mode.Parts (opening Rest.NameOrNone w)) fs same_toks same_tab → (opening Rest.NameOrNone w ≡ Rest.Name → PartsPast (Mode.Parts Rest.NameOrNone) fs same_toks (λ τ i. named_tab i τ)) → PartsPast (Mode.Parts Rest.NameOrNone) fs (dashed true w) (λ τ i. name_tab Label.Function w i τ)
  function_past Word.Bare fs y P N f st τ ts deep = P f st τ ts deep
  function_past Word.Named fs y P N f st τ ts deep = N refl f st τ ts deep
  function_past Word.Var fs y P N f st τ ts deep = absurd (false≢true y)
  function_past Word.Let fs y P N f st τ ts deep = absurd (false≢true y)
  function_past Word.Const fs y P N f st τ ts deep = absurd (false≢true y)
  function_past Word.S fs y P N f st τ ts deep = absurd (false≢true y)
  function_past Word.C fs y P N f st τ ts deep = absurd (false≢true y)
  function_past Word.False fs y P N f st τ ts deep = absurd (false≢true y)
  function_past Word.True fs y P N f st τ ts deep = absurd (false≢true y)

  plain-past : (r : Rest) (w : Word) (fs : Forms) → may_dash r ≡ false → PartsPast (Mode.Parts (opening r w)) fs same_toks same_tab → PartsPast (Mode.Parts r) fs same_toks same_tab
  plain-past r w fs e P = subst (λ x. PartsPast (Mode.Parts x) fs same_toks same_tab) (opening-same r w e) P

  body_past : (l : Label) (s : Says) (r : Rest) (fs : Forms) → Said l s → may_dash r ≡ is_function l → PartsPast (Mode.Parts (opening r s.word)) fs same_toks same_tab → (opening r s.word ≡ Rest.Name → r ≡ Rest.NameOrNone → PartsPast (Mode.Parts Rest.NameOrNone) fs same_toks (λ τ i. named_tab i τ)) → PartsPast (Mode.Parts r) fs (dashed (is_function l) s.word) (λ τ i. name_tab l s.word i τ)
  body_past Label.None s r fs h e P N = plain-past r s.word fs e P
  body_past Label.Ident s r fs h e P N = plain-past r s.word fs e P
  body_past Label.Name s r fs h e P N = plain-past r s.word fs e P
  body_past Label.Scope s r fs h e P N = plain-past r s.word fs e P
  body_past Label.Variables s r fs h e P N = plain-past r s.word fs e P
  body_past Label.Function s r fs h e P N =
      let is : r ≡ Rest.NameOrNone = dash_only r e in
      subst (λ x. PartsPast (Mode.Parts x) fs (dashed true s.word) (λ τ i. name_tab Label.Function s.word i τ)) (sym is)
      (function_past s.word fs h.0 (subst (λ x. PartsPast (Mode.Parts (opening x s.word)) fs same_toks same_tab) is P) (λ q. N (ap (λ x. opening x s.word) is ∙ q) is))
  body_past Label.Handle s r fs h e P N = plain-past r s.word fs e P
  body_past Label.Text s r fs h e P N = plain-past r s.word fs e P
  body_past Label.Truth s r fs h e P N = plain-past r s.word fs e P

  mutual
    -- a form where r is wanted, after its bracket
    pub form-past : {r r' : Rest} {t : Form} → Formed limit r t r' → (r₂ : Rest) → Like r r₂ → (st : List Frame) (τ : Tab) (ts : List Tok) → length st + depth t ≤ d → past d limit (at (Mode.Word r₂) st τ) (inner t ts) ≡ past d limit (at (later (frame τ.count r') st) st (tab_form t τ)) ts
    form-past (formed {r = r} {r' = r'} {s = s} {fs = fs} e p rd) r₂ like st τ ts deep =
        kind-past r r₂ r' s.kind st τ (field_toks (due (label_of s.kind) Field.Lo) s (dashed (is_function (label_of s.kind)) s.word (part_toks fs (closes ∷ ts)))) like e (omega arith)
        ∙ headed d limit w32 s (inside r s.kind) (frame τ.count r' ∷ st) τ (dashed (is_function (label_of s.kind)) s.word (part_toks fs (closes ∷ ts))) (loadable r r' s.kind e) p.placed p.said
        ∙ body_past (label_of s.kind) s (inside r s.kind) fs p.said (inside-dash r s.kind) (parts-past rd (opening-plain (inside r s.kind) s.word)) (λ q z. named_past rd q) (frame τ.count r') st (head_tab s τ) ts (omega arith)

    parts-past : {r : Rest} {fs : Forms} → Reads limit r fs → may_dash r ≡ false → PartsPast (Mode.Parts r) fs same_toks same_tab
    parts-past (last {r = r} c) plain f st τ ts deep =
        let s = at (Mode.Parts r) (f ∷ st) τ in
        past_on d limit s _ closes ts (ap (λ b. cond b (closed_by s 0 (f ∷ st)) (Rattle.reader.specs.Machine.wrong 0)) c)
    parts-past (more {r = r} {r' = r'} {t = t} {fs = fs} fm rd) plain f st τ ts deep =
        let s = at (Mode.Part r) (f ∷ st) τ in
        let one = some_depth t in
        ap (λ b. past d limit (at (Mode.Parts r) (f ∷ st) τ) (blank ∷ b)) (opens-inner t (part_toks fs (closes ∷ ts)))
        ∙ past_on d limit (at (Mode.Parts r) (f ∷ st) τ) s blank (opens ∷ inner t (part_toks fs (closes ∷ ts))) (ap (λ b. cond b (go s) (Rattle.reader.specs.Machine.wrong 0)) (formed-goes fm))
        ∙ past_on d limit s (at (Mode.Word r) (f ∷ st) τ) opens (inner t (part_toks fs (closes ∷ ts))) (cond-true _ _ _ (lt-ltb (suc (length st)) d (omega arith)) ∙ ap (λ b. go (record { mode = Mode.Word r; node = τ.node; stack = f ∷ st; nodes = cond b (called_in τ.nodes (f ∷ st)) τ.nodes; text = τ.text; count = τ.count; bytes = τ.bytes })) plain)
        ∙ form-past fm r (alike r) (f ∷ st) τ (part_toks fs (closes ∷ ts)) (omega arith)
        ∙ parts-past rd (formed-plain fm) f st (tab_form t τ) ts (omega arith)

    -- the name of a function comes first
    named_past : {r : Rest} {fs : Forms} → Reads limit r fs → r ≡ Rest.Name → PartsPast (Mode.Parts Rest.NameOrNone) fs same_toks (λ τ i. named_tab i τ)
    named_past (last {r = r} c) is f st τ ts deep = absurd (false≢true (sym (ap mayEnd is) ∙ c))
    named_past (more {r = r} {r' = r'} {t = t} {fs = fs} fm rd) is f st τ ts deep =
        let s = at (Mode.Part Rest.NameOrNone) (f ∷ st) τ in
        let one = some_depth t in
        ap (λ b. past d limit (at (Mode.Parts Rest.NameOrNone) (f ∷ st) τ) (blank ∷ b)) (opens-inner t (part_toks fs (closes ∷ ts)))
        ∙ past_on d limit s (at (Mode.Word Rest.NameOrNone) (f ∷ st) (named_tab f.at τ)) opens (inner t (part_toks fs (closes ∷ ts))) (cond-true _ _ _ (lt-ltb (suc (length st)) d (omega arith)))
        ∙ form-past fm Rest.NameOrNone (subst (λ x. Like x Rest.NameOrNone) (sym is) named_like) (f ∷ st) (named_tab f.at τ) (part_toks fs (closes ∷ ts)) (omega arith)
        ∙ parts-past rd (formed-plain fm) f st (tab_form t (named_tab f.at τ)) ts (omega arith)

  -- a line, and what follows it
  line_past : {r r' : Rest} {t : Form} → Formed limit r t r' → (τ : Tab) (ts : List Tok) → depth t ≤ d → past d limit (at (Mode.Word r) [] τ) (inner t (feed ∷ ts)) ≡ past d limit (at Mode.Items [] (tab_form t τ)) ts
  line_past {r = r} fm τ ts deep = form-past fm r (alike r) [] τ (feed ∷ ts) (omega arith)

  items_past : {items : Forms} → Items limit items → (τ : Tab) (ts : List Tok) → depths items ≤ d → past d limit (at Mode.Items [] τ) (line_toks items ts) ≡ past d limit (at Mode.Items [] (tab_forms items τ)) ts
  items_past readings.end τ ts deep = refl
  items_past (item {t = t} {fs = fs} fm its) τ ts deep =
      let one = some_depth t in
      ap (past d limit (at Mode.Items [] τ)) (opens-inner t (feed ∷ line_toks fs ts))
      ∙ past_on d limit (at Mode.Items [] τ) (at (Mode.Word Rest.Item) [] τ) opens (inner t (feed ∷ line_toks fs ts)) (cond-true _ _ _ (lt-ltb 0 d (omega arith)))
      ∙ line_past fm τ (line_toks fs ts) (omega arith)
      ∙ items_past its (tab_form t τ) ts (omega arith)
