-- Where forms of a kind may stand. A later kind is one row more of `group`.
use Rattle.std.specs.Prelude.{ℕ, Bool, false, ◌||◌, List, [], ◌∷◌, ◌==◌}
use Rattle.tables.specs.declared.kind.Kind.{Kind}
use Rattle.grammar.specs.declared.group.Group.{Group}
use Rattle.grammar.specs.declared.group.Sort.{Sort}

-- kinds that may stand at the same places
abbrev pub group : Kind → Group
group Kind.Module = Group.Module
group Kind.Import = Group.Item
group Kind.Export = Group.Item
group Kind.Deffn = Group.Item
group Kind.Defexpr = Group.Item
group Kind.Expr = Group.Statement
group Kind.Var = Group.Declaration
group Kind.Func = Group.Declaration
group Kind.Return = Group.Statement
group Kind.If = Group.Statement
group Kind.Block = Group.Block
group Kind.Id = Group.Ident
group Kind.Lit = Group.Expression
group Kind.Call = Group.Expression
group Kind.Member = Group.Member
group Kind.Array = Group.Expression
group Kind.Op = Group.Expression
group Kind.Assign = Group.Expression
group Kind.Arrow = Group.Expression
group Kind.Fn = Group.Expression
group Kind.Tagged = Group.Expression
group Kind.Jsx = Group.Expression
group Kind.Pat = Group.Pattern
group Kind.Dflt = Group.Pattern
group Kind.Decl = Group.Decl
group Kind.Prop = Group.Prop
group Kind.Attr = Group.Attr
group Kind.Kwimport = Group.Kwimport
group Kind.Hand = Group.Made
group Kind.Str = Group.Made
group Kind.Bool = Group.Made

-- what may stand where a sort is wanted
abbrev pub groups : Sort → List Group
groups Sort.Module = Group.Module ∷ []
groups Sort.Item = Group.Item ∷ Group.Statement ∷ Group.Declaration ∷ Group.Block ∷ []
groups Sort.Statement = Group.Statement ∷ Group.Declaration ∷ Group.Block ∷ []
groups Sort.Expression = Group.Ident ∷ Group.Member ∷ Group.Expression ∷ []
groups Sort.Pattern = Group.Ident ∷ Group.Pattern ∷ []
groups Sort.Ident = Group.Ident ∷ []
groups Sort.Exported = Group.Declaration ∷ []
groups Sort.Block = Group.Block ∷ []
groups Sort.Decl = Group.Decl ∷ []
groups Sort.Prop = Group.Prop ∷ []
groups Sort.Attr = Group.Attr ∷ []
groups Sort.Callee = Group.Ident ∷ Group.Member ∷ Group.Expression ∷ Group.Kwimport ∷ []
groups Sort.Target = Group.Ident ∷ Group.Member ∷ []
groups Sort.Body = Group.Ident ∷ Group.Member ∷ Group.Expression ∷ Group.Block ∷ []
groups Sort.JsxName = Group.Ident ∷ Group.Member ∷ []

-- each group's place among the groups, by which two are told apart
abbrev pub order : Group → ℕ
order Group.Module = 0
order Group.Item = 1
order Group.Statement = 2
order Group.Declaration = 3
order Group.Block = 4
order Group.Ident = 5
order Group.Member = 6
order Group.Expression = 7
order Group.Pattern = 8
order Group.Decl = 9
order Group.Prop = 10
order Group.Attr = 11
order Group.Kwimport = 12
order Group.Made = 13

abbrev pub same_group : Group → Group → Bool
same_group a b = order a == order b

abbrev pub among : List Group → Group → Bool
among [] g = false
among (h ∷ hs) g = same_group h g || among hs g

-- whether a form of a group may stand where a sort is wanted
abbrev pub belongs : Sort → Group → Bool
belongs sort g = among (groups sort) g
