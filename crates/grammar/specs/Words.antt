-- The words of the text form.
use Rattle.std.specs.Prelude.{ℕ, cond, List, [], ◌∷◌, Some, None, codes, Option, find}
use Rattle.std.specs.Str.{bytes_eq}
use Rattle.tables.specs.declared.kind.Kind.{Kind}
use Rattle.tables.specs.declared.kind.Word.{Word}

-- the word that begins a form of a kind
abbrev pub word_of : Kind → List ℕ
word_of Kind.Module = codes "module"
word_of Kind.Import = codes "import"
word_of Kind.Export = codes "export"
word_of Kind.Deffn = codes "deffn"
word_of Kind.Defexpr = codes "defexpr"
word_of Kind.Expr = codes "expr"
word_of Kind.Var = codes "var"
word_of Kind.Func = codes "func"
word_of Kind.Return = codes "return"
word_of Kind.If = codes "if"
word_of Kind.Block = codes "block"
word_of Kind.Id = codes "id"
word_of Kind.Lit = codes "lit"
word_of Kind.Call = codes "call"
word_of Kind.Member = codes "member"
word_of Kind.Array = codes "array"
word_of Kind.Op = codes "op"
word_of Kind.Assign = codes "assign"
word_of Kind.Arrow = codes "arrow"
word_of Kind.Fn = codes "fn"
word_of Kind.Tagged = codes "tagged"
word_of Kind.Jsx = codes "jsx"
word_of Kind.Pat = codes "pat"
word_of Kind.Dflt = codes "dflt"
word_of Kind.Decl = codes "decl"
word_of Kind.Prop = codes "prop"
word_of Kind.Attr = codes "attr"
word_of Kind.Kwimport = codes "kwimport"
word_of Kind.Hand = codes "hand"
word_of Kind.Str = codes "str"
word_of Kind.Bool = codes "bool"

-- how a form says a word
abbrev pub text_of : Word → List ℕ
text_of Word.Bare = codes "-"
text_of Word.Named = codes ""
text_of Word.Var = codes "var"
text_of Word.Let = codes "let"
text_of Word.Const = codes "const"
text_of Word.S = codes "_s"
text_of Word.C = codes "_c"
text_of Word.False = codes "false"
text_of Word.True = codes "true"

-- the first of some kinds that a run of bytes names
abbrev pub named : List Kind → List ℕ → Option Kind
named ks bs = find (λ k. bytes_eq bs (word_of k)) ks

-- the kinds that a text to be loaded may have, those that come often first
abbrev pub kinds : List Kind
kinds = Kind.Id ∷ Kind.Call ∷ Kind.Member ∷ Kind.Prop ∷ Kind.Lit ∷ Kind.Expr ∷ Kind.Decl ∷ Kind.Var ∷ Kind.Block ∷ Kind.Func ∷ Kind.Arrow ∷ Kind.Jsx ∷ Kind.Attr ∷ Kind.Return ∷ Kind.Fn ∷ Kind.Op ∷ Kind.Assign ∷ Kind.Array ∷ Kind.If ∷ Kind.Pat ∷ Kind.Dflt ∷ Kind.Import ∷ Kind.Export ∷ Kind.Deffn ∷ Kind.Defexpr ∷ Kind.Tagged ∷ Kind.Kwimport ∷ Kind.Module ∷ []

unfoldable pub kind_of : List ℕ → Option Kind
kind_of bs = named kinds bs

-- the word of a `var`
abbrev pub variables_of : List ℕ → Option Word
variables_of bs = cond (bytes_eq bs (text_of Word.Const)) (Some Word.Const) (cond (bytes_eq bs (text_of Word.Let)) (Some Word.Let) (cond (bytes_eq bs (text_of Word.Var)) (Some Word.Var) None))
