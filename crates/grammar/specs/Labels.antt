-- What a form says besides its span and its parts.
use Rattle.tables.specs.declared.kind.Kind.{Kind}
use Rattle.grammar.specs.declared.label.Label.{Label}

abbrev pub label_of : Kind → Label
label_of Kind.Deffn = Label.Function
label_of Kind.Var = Label.Variables
label_of Kind.Block = Label.Scope
label_of Kind.Id = Label.Ident
label_of Kind.Fn = Label.Function
label_of Kind.Prop = Label.Name
label_of Kind.Hand = Label.Handle
label_of Kind.Str = Label.Text
label_of Kind.Bool = Label.Truth
label_of k = Label.None
