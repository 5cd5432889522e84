-- The tokens of a module's text, form by form.
use Rattle.std.proofs.Common.{ℕ, Bool, true, false, List, [], ◌∷◌, decimal}
use Rattle.tables.specs.declared.kind.Word.{Word}
use Rattle.lex.specs.Tokens.{Tok, opens, closes, blank, feed, run, end}
use Rattle.grammar.specs.declared.label.Label.{Label}
use Rattle.grammar.specs.Forms.{Says, Form, form, Forms, nil, cons}
use Rattle.grammar.specs.Labels.{label_of}
use Rattle.grammar.specs.Words.{word_of, text_of}
use Rattle.reader.specs.declared.mode.Field.{Field}

-- what a form says after its span, and after a name
abbrev pub due_span : Label → List Field
due_span Label.Ident = Field.Name ∷ Field.Scope ∷ []
due_span Label.Name = Field.Name ∷ []
due_span Label.Scope = Field.Scope ∷ []
due_span Label.Variables = Field.Variables ∷ []
due_span l = []

abbrev pub due_name : Label → List Field
due_name Label.Ident = Field.Scope ∷ []
due_name l = []

-- what is still to be said, from a field on
abbrev pub due : Label → Field → List Field
due l Field.Lo = Field.Lo ∷ Field.Hi ∷ due_span l
due l Field.Hi = Field.Hi ∷ due_span l
due l Field.Name = Field.Name ∷ due_name l
due l Field.Scope = Field.Scope ∷ []
due l Field.Variables = Field.Variables ∷ []
due l Field.End = []

-- how a field is said
abbrev pub field_text : Field → Says → List ℕ
field_text Field.Lo s = decimal s.span.lo
field_text Field.Hi s = decimal s.span.hi
field_text Field.Name s = s.name
field_text Field.Scope s = decimal s.scope
field_text Field.Variables s = text_of s.word
field_text Field.End s = []

abbrev pub field_toks : List Field → Says → List Tok → List Tok
field_toks [] s ts = ts
field_toks (f ∷ fs) s ts = blank ∷ run (field_text f s) ∷ field_toks fs s ts

-- only a function may say `-`
abbrev pub is_function : Label → Bool
is_function Label.Function = true
is_function l = false

abbrev pub dash_toks : Word → List Tok → List Tok
dash_toks Word.Bare ts = blank ∷ run (45 ∷ []) ∷ ts
dash_toks n ts = ts

abbrev pub dashed : Bool → Word → List Tok → List Tok
dashed false w ts = ts
dashed true w ts = dash_toks w ts

-- a form, and then other tokens
abbrev mutual
  pub toks : Form → List Tok → List Tok
  toks (form s fs) ts = opens ∷ run (word_of s.kind) ∷ field_toks (due (label_of s.kind) Field.Lo) s (dashed (is_function (label_of s.kind)) s.word (part_toks fs (closes ∷ ts)))

  -- a blank before each part
  pub part_toks : Forms → List Tok → List Tok
  part_toks nil ts = ts
  part_toks (cons t fs) ts = blank ∷ toks t (part_toks fs ts)

-- one form a line
abbrev pub line_toks : Forms → List Tok → List Tok
line_toks nil ts = ts
line_toks (cons t fs) ts = toks t (feed ∷ line_toks fs ts)

-- the text of a module
abbrev pub module_toks : Form → List Tok
module_toks (form s items) = toks (form s nil) (feed ∷ line_toks items (end ∷ []))
