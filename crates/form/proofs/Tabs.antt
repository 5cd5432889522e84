-- What the reader does to the tables while it reads a form.
use Rattle.std.proofs.Common.{ℕ, min, List, length, set}
use Rattle.tables.specs.Modules.{node_at, made}
use Rattle.tables.specs.declared.kind.Kind.{Kind}
use Rattle.tables.specs.declared.kind.Word.{Word}
use Rattle.tables.specs.declared.node.Node.{Node}
use Rattle.tables.specs.declared.node.Place.{Place}
use Rattle.grammar.specs.declared.label.Label.{Label}
use Rattle.grammar.specs.Forms.{Says, Form, form, Forms, nil, cons}
use Rattle.grammar.specs.Labels.{label_of}
use Rattle.reader.specs.declared.mode.Frame.{Frame}
use Rattle.reader.specs.declared.mode.Mode.{Mode}
use Rattle.reader.specs.Machine.{State, sum, sized, with_word, kept_at}

-- the tables, the counts, and the form whose beginning was read last
pub record Tab : Type 0 where
  pub node : Node
  pub nodes : List Node
  pub text : List ℕ
  pub count : ℕ
  pub bytes : ℕ

abbrev pub at : Mode → List Frame → Tab → State
at m st τ = record { mode = m; node = τ.node; stack = st; nodes = τ.nodes; text = τ.text; count = τ.count; bytes = τ.bytes }

-- only a `var` says its word before its parts
abbrev pub word_by : Label → Word → Word
word_by Label.Variables w = w
word_by l w = Word.Bare

abbrev pub nowhere : Place
nowhere = record { at = 0; len = 0 }

-- a name stands behind the names before it
abbrev pub place_by : Label → ℕ → List ℕ → Place
place_by Label.Ident b n = record { at = min b 65535; len = min (length n) 65535 }
place_by Label.Name b n = record { at = min b 65535; len = min (length n) 65535 }
place_by l b n = nowhere

abbrev pub text_by : Label → List ℕ → ℕ → List ℕ → List ℕ
text_by Label.Ident x b n = kept_at x b n
text_by Label.Name x b n = kept_at x b n
text_by l x b n = x

abbrev pub bytes_by : Label → ℕ → List ℕ → ℕ
bytes_by Label.Ident b n = sum b (length n)
bytes_by Label.Name b n = sum b (length n)
bytes_by l b n = b

-- the node of a form, before its parts are read
abbrev pub node_of : ℕ → Says → Node
node_of b s = record { kind = s.kind; word = word_by (label_of s.kind) s.word; scope = s.scope; number = 0; text = place_by (label_of s.kind) b s.name; size = 1; span = s.span }

-- a form's beginning
abbrev pub head_tab : Says → Tab → Tab
head_tab s τ = record { node = node_of τ.bytes s; nodes = set τ.nodes τ.count (node_of τ.bytes s); text = text_by (label_of s.kind) τ.text τ.bytes s.name; count = sum τ.count 1; bytes = bytes_by (label_of s.kind) τ.bytes s.name }

-- a function turns out to have a name
abbrev pub named_tab : ℕ → Tab → Tab
named_tab i τ = record { node = τ.node; nodes = set τ.nodes i (with_word (node_at τ.nodes i) Word.Named); text = τ.text; count = τ.count; bytes = τ.bytes }

abbrev pub by_word : Word → ℕ → Tab → Tab
by_word Word.Bare i τ = τ
by_word Word.Named i τ = named_tab i τ
by_word Word.Var i τ = τ
by_word Word.Let i τ = τ
by_word Word.Const i τ = τ
by_word Word.S i τ = τ
by_word Word.C i τ = τ
by_word Word.False i τ = τ
by_word Word.True i τ = τ

abbrev pub name_tab : Label → Word → ℕ → Tab → Tab
name_tab Label.None w i τ = τ
name_tab Label.Ident w i τ = τ
name_tab Label.Name w i τ = τ
name_tab Label.Scope w i τ = τ
name_tab Label.Variables w i τ = τ
name_tab Label.Function w i τ = by_word w i τ
name_tab Label.Handle w i τ = τ
name_tab Label.Text w i τ = τ
name_tab Label.Truth w i τ = τ

-- a form's end
abbrev pub close_tab : ℕ → Tab → Tab
close_tab i τ = record { node = τ.node; nodes = sized τ.nodes i τ.count; text = τ.text; count = τ.count; bytes = τ.bytes }

abbrev mutual
  pub tab_form : Form → Tab → Tab
  tab_form (form s fs) τ = close_tab τ.count (tab_forms fs (name_tab (label_of s.kind) s.word τ.count (head_tab s τ)))

  pub tab_forms : Forms → Tab → Tab
  tab_forms nil τ = τ
  tab_forms (cons t fs) τ = tab_forms fs (tab_form t τ)

-- before the first token, and after the last
abbrev pub start_tab : List Node → List ℕ → Tab
start_tab nodes text = record { node = made Kind.Module; nodes = nodes; text = text; count = 0; bytes = 0 }

abbrev pub module_tab : Form → List Node → List ℕ → Tab
module_tab (form s items) nodes text = close_tab 0 (tab_forms items (tab_form (form s nil) (start_tab nodes text)))
