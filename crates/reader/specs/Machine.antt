-- The reader as an automaton: what it wants next, which forms are open, and what stands in the tables.
use Rattle.std.specs.Prelude.{ℕ, ◌+◌, ◌-◌, ◌^◌, min, cond, ◌&&◌, List, [], ◌∷◌, ◌++◌, length, take, drop, Some, None, Option, ◌==◌, nat_le, nat_lt, slice_set}
use Rattle.std.specs.Str.{bytes_eq}
use Rattle.tables.specs.Modules.{node_at, made}
use Rattle.tables.specs.Text.{name}
use Rattle.tables.specs.declared.fault.Fault.{Fault}
use Rattle.tables.specs.declared.kind.Kind.{Kind}
use Rattle.tables.specs.declared.kind.Word.{Word}
use Rattle.tables.specs.declared.node.Node.{Node}
use Rattle.tables.specs.declared.node.Place.{Place}
use Rattle.lex.specs.Numbers.{number_of}
use Rattle.lex.specs.Tokens.{Tok, opens, closes, blank, feed, run, end, foul}
use Rattle.lex.specs.Written.{over}
use Rattle.grammar.specs.declared.label.Label.{Label}
use Rattle.grammar.specs.declared.rest.Rest.{Rest}
use Rattle.grammar.specs.Groups.{group}
use Rattle.grammar.specs.Labels.{label_of}
use Rattle.grammar.specs.Rests.{after, inside, goes_on, may_dash, closes as mayEnd}
use Rattle.grammar.specs.Words.{kind_of, variables_of}
use Rattle.reader.specs.declared.mode.Field.{Field}
use Rattle.reader.specs.declared.mode.Frame.{Frame}
use Rattle.reader.specs.declared.mode.Mode.{Mode}

-- where the reader is in a text
pub record State : Type 0 where
  pub mode : Mode
  -- the form whose beginning is being read
  pub node : Node
  -- the open forms, the innermost first
  pub stack : List Frame
  -- the tables; what does not fit them is counted all the same
  pub nodes : List Node
  pub text : List ℕ
  pub count : ℕ
  pub bytes : ℕ

pub data Step : Type 0 where
  go : State → Step
  done : State → Step
  stop : Fault → Step

-- by the token; one with unlawful bytes is refused wherever it stands
abbrev pub on : Tok → ℕ → (o c b f : Step) → (List ℕ → Step) → (e : Step) → Step
on opens p o c b f r e = o
on closes p o c b f r e = c
on blank p o c b f r e = b
on feed p o c b f r e = f
on (run bs) p o c b f r e = r bs
on end p o c b f r e = e
on foul p o c b f r e = stop (Fault.Unlawful p)

-- a token that cannot stand at its place
abbrev pub wrong : ℕ → Step
wrong p = stop (Fault.Misplaced p)

abbrev pub perhaps : {X : Type 0} → ℕ → Option X → (X → Step) → Step
perhaps p None f = wrong p
perhaps p (Some x) f = f x

abbrev pub sum : ℕ → ℕ → ℕ
sum a b = min (a + b) (2 ^ 64 - 1)

abbrev pub to : State → Mode → State
to s m = record { mode = m; node = s.node; stack = s.stack; nodes = s.nodes; text = s.text; count = s.count; bytes = s.bytes }

abbrev pub with_lo : Node → ℕ → Node
with_lo n x = record { kind = n.kind; word = n.word; scope = n.scope; number = n.number; text = n.text; size = n.size; span = record { lo = x; hi = n.span.hi } }

abbrev pub with_hi : Node → ℕ → Node
with_hi n x = record { kind = n.kind; word = n.word; scope = n.scope; number = n.number; text = n.text; size = n.size; span = record { lo = n.span.lo; hi = x } }

abbrev pub with_text : Node → Place → Node
with_text n x = record { kind = n.kind; word = n.word; scope = n.scope; number = n.number; text = x; size = n.size; span = n.span }

abbrev pub with_scope : Node → ℕ → Node
with_scope n x = record { kind = n.kind; word = n.word; scope = x; number = n.number; text = n.text; size = n.size; span = n.span }

abbrev pub with_word : Node → Word → Node
with_word n x = record { kind = n.kind; word = x; scope = n.scope; number = n.number; text = n.text; size = n.size; span = n.span }

abbrev pub with_size : Node → ℕ → Node
with_size n x = record { kind = n.kind; word = n.word; scope = n.scope; number = n.number; text = n.text; size = x; span = n.span }

abbrev pub mapped : {X : Type 0} → Option X → (X → Node) → Option Node
mapped None f = None
mapped (Some x) f = Some (f x)

abbrev pub hi_from : ℕ → Node → Option ℕ → Option Node
hi_from lo n None = None
hi_from lo n (Some x) = cond (nat_le lo x) (Some (with_hi n x)) None

-- a node after what a form says has been read: a span within the limit, a name that will stand behind `bytes` others, a scope, a word
abbrev pub fill : (limit bytes : ℕ) → Field → List ℕ → Node → Option Node
fill limit bytes Field.Lo bs n = mapped (number_of limit bs) (with_lo n)
fill limit bytes Field.Hi bs n = hi_from n.span.lo n (number_of (cond (n.span.lo == 0) 0 limit) bs)
fill limit bytes Field.Name bs n = cond (name bs) (Some (with_text n (record { at = min bytes 65535; len = min (length bs) 65535 }))) None
fill limit bytes Field.Scope bs n = mapped (number_of 65535 bs) (with_scope n)
fill limit bytes Field.Variables bs n = mapped (variables_of bs) (with_word n)
fill limit bytes Field.End bs n = None

-- a name behind the first bytes of the text table, as far as it fits
abbrev pub kept_at : List ℕ → ℕ → List ℕ → List ℕ
kept_at text bytes bs = take (min bytes (length text)) text ++ over (drop (min bytes (length text)) text) bs

abbrev pub kept_bytes : ℕ → Field → List ℕ → ℕ
kept_bytes bytes Field.Lo bs = bytes
kept_bytes bytes Field.Hi bs = bytes
kept_bytes bytes Field.Name bs = sum bytes (length bs)
kept_bytes bytes Field.Scope bs = bytes
kept_bytes bytes Field.Variables bs = bytes
kept_bytes bytes Field.End bs = bytes

abbrev pub kept_text : List ℕ → ℕ → Field → List ℕ → List ℕ
kept_text text bytes Field.Lo bs = text
kept_text text bytes Field.Hi bs = text
kept_text text bytes Field.Name bs = kept_at text bytes bs
kept_text text bytes Field.Scope bs = text
kept_text text bytes Field.Variables bs = text
kept_text text bytes Field.End bs = text

-- what a form says after its span, and after a name
abbrev pub after_span : Label → Field
after_span Label.None = Field.End
after_span Label.Ident = Field.Name
after_span Label.Name = Field.Name
after_span Label.Scope = Field.Scope
after_span Label.Variables = Field.Variables
after_span Label.Function = Field.End
after_span Label.Handle = Field.End
after_span Label.Text = Field.End
after_span Label.Truth = Field.End

abbrev pub after_name : Label → Field
after_name Label.None = Field.End
after_name Label.Ident = Field.Scope
after_name Label.Name = Field.End
after_name Label.Scope = Field.End
after_name Label.Variables = Field.End
after_name Label.Function = Field.End
after_name Label.Handle = Field.End
after_name Label.Text = Field.End
after_name Label.Truth = Field.End

abbrev pub next_field : Label → Field → Field
next_field l Field.Lo = Field.Hi
next_field l Field.Hi = after_span l
next_field l Field.Name = after_name l
next_field l Field.Scope = Field.End
next_field l Field.Variables = Field.End
next_field l Field.End = Field.End

-- where more is to be said, the next field; else the node enters the table
abbrev pub advance : Field → Rest → State → State
advance Field.Lo r s = to s (Mode.Gap Field.Lo r)
advance Field.Hi r s = to s (Mode.Gap Field.Hi r)
advance Field.Name r s = to s (Mode.Gap Field.Name r)
advance Field.Scope r s = to s (Mode.Gap Field.Scope r)
advance Field.Variables r s = to s (Mode.Gap Field.Variables r)
advance Field.End r s = record { mode = Mode.Parts r; node = s.node; stack = s.stack; nodes = slice_set s.nodes s.count s.node; text = s.text; count = sum s.count 1; bytes = s.bytes }

abbrev pub filled : State → Field → List ℕ → Node → State
filled s f bs n = record { mode = s.mode; node = n; stack = s.stack; nodes = s.nodes; text = kept_text s.text s.bytes f bs; count = s.count; bytes = kept_bytes s.bytes f bs }

abbrev pub said : (limit : ℕ) → State → ℕ → Field → Rest → List ℕ → Step
said limit s p f r bs = perhaps p (fill limit s.bytes f bs s.node) (λ n. go (advance (next_field (label_of n.kind) f) r (filled s f bs n)))

-- one bracket more is open, up to a number
abbrev pub opened : (deep : ℕ) → ℕ → State → Step → Step
opened deep p s x = cond (nat_lt (length s.stack) deep) x (stop (Fault.TooDeep p))

abbrev pub framed : State → Kind → Rest → Rest → State
framed s k r later = record { mode = Mode.Gap Field.Lo r; node = made k; stack = record { at = s.count; later = later } ∷ s.stack; nodes = s.nodes; text = s.text; count = s.count; bytes = s.bytes }

abbrev pub worded : (deep : ℕ) → State → ℕ → Rest → List ℕ → Step
worded deep s p r bs = perhaps p (kind_of bs) (λ k. perhaps p (after r (group k)) (λ later. opened deep p s (go (framed s k (inside r k) later))))

-- how many nodes a form has, now that it has been read
abbrev pub sized : List Node → ℕ → ℕ → List Node
sized nodes at count = slice_set nodes at (with_size (node_at nodes at) (min (count - at) 65535))

-- what is wanted after a form, by the forms around it
abbrev pub later : Frame → List Frame → Mode
later f [] = Mode.Line
later f (g ∷ st) = Mode.Parts f.later

abbrev pub closed_by : State → ℕ → List Frame → Step
closed_by s p [] = wrong p
closed_by s p (f ∷ st) = go (record { mode = later f st; node = s.node; stack = st; nodes = sized s.nodes f.at s.count; text = s.text; count = s.count; bytes = s.bytes })

-- the function that is open has a name
abbrev pub called_in : List Node → List Frame → List Node
called_in nodes [] = nodes
called_in nodes (f ∷ st) = slice_set nodes f.at (with_word (node_at nodes f.at) Word.Named)

abbrev pub called : State → Rest → State
called s r = record { mode = Mode.Word r; node = s.node; stack = s.stack; nodes = cond (may_dash r) (called_in s.nodes s.stack) s.nodes; text = s.text; count = s.count; bytes = s.bytes }

abbrev pub finished : State → State
finished s = record { mode = s.mode; node = s.node; stack = s.stack; nodes = sized s.nodes 0 s.count; text = s.text; count = s.count; bytes = s.bytes }

-- the step at a token and its place
abbrev pub step_by : (deep limit : ℕ) → Mode → State → ℕ → Tok → Step
step_by deep limit Mode.First s p t = on t p (opened deep p s (go (to s (Mode.Word Rest.Top)))) (wrong p) (wrong p) (wrong p) (λ _. wrong p) (wrong p)
step_by deep limit (Mode.Word r) s p t = on t p (wrong p) (wrong p) (wrong p) (wrong p) (worded deep s p r) (wrong p)
step_by deep limit (Mode.Gap f r) s p t = on t p (wrong p) (wrong p) (go (to s (Mode.Said f r))) (wrong p) (λ _. wrong p) (wrong p)
step_by deep limit (Mode.Said f r) s p t = on t p (wrong p) (wrong p) (wrong p) (wrong p) (said limit s p f r) (wrong p)
step_by deep limit (Mode.Parts r) s p t = on t p (wrong p) (cond (mayEnd r) (closed_by s p s.stack) (wrong p)) (cond (goes_on r) (go (to s (Mode.Part r))) (wrong p)) (wrong p) (λ _. wrong p) (wrong p)
step_by deep limit (Mode.Part r) s p t = on t p (opened deep p s (go (called s r))) (wrong p) (wrong p) (wrong p) (λ bs. cond (may_dash r && bytes_eq bs (45 ∷ [])) (go (to s (Mode.Parts Rest.Params))) (wrong p)) (wrong p)
step_by deep limit Mode.Line s p t = on t p (wrong p) (wrong p) (wrong p) (go (to s Mode.Items)) (λ _. wrong p) (wrong p)
step_by deep limit Mode.Items s p t = on t p (opened deep p s (go (to s (Mode.Word Rest.Item)))) (wrong p) (wrong p) (wrong p) (λ _. wrong p) (done (finished s))

abbrev pub step : (deep limit : ℕ) → State → ℕ → Tok → Step
step deep limit s p t = step_by deep limit s.mode s p t

-- what comes of a text
pub data Outcome : Type 0 where
  accepted : State → Outcome
  refused : Fault → Outcome

abbrev pub onward : Step → (State → Outcome) → Outcome
onward (go s) f = f s
onward (done s) f = accepted s
onward (stop e) f = refused e

abbrev pub goes : (deep limit : ℕ) → State → List (ℕ × Tok) → Outcome
goes deep limit s [] = refused (Fault.Misplaced 0)
goes deep limit s (t ∷ ts) = onward (step deep limit s t.0 t.1) (λ s'. goes deep limit s' ts)

-- before the first token
abbrev pub start : List Node → List ℕ → State
start nodes text = record { mode = Mode.First; node = made Kind.Module; stack = []; nodes = nodes; text = text; count = 0; bytes = 0 }
