-- What a form that is being read may still have, part by part.
use Rattle.std.specs.Prelude.{Bool, true, false, cond, Some, None, Option}
use Rattle.tables.specs.declared.kind.Kind.{Kind}
use Rattle.grammar.specs.declared.group.Group.{Group}
use Rattle.grammar.specs.declared.group.Sort.{Sort}
use Rattle.grammar.specs.declared.rest.Rest.{Rest}
use Rattle.grammar.specs.Groups.{belongs}

abbrev pub when : Bool → Rest → Option Rest
when fits rest = cond fits (Some rest) None

-- patterns, then a block
abbrev pub params_part : Group → Option Rest
params_part g = cond (belongs Sort.Block g) (Some Rest.Done) (when (belongs Sort.Pattern g) Rest.Params)

-- patterns, and last an expression or a block; an `id` may be either
abbrev pub arrow_part : Group → Option Rest
arrow_part g = cond (belongs Sort.Ident g) (Some Rest.ArrowOrBody) (cond (belongs Sort.Pattern g) (Some Rest.Arrow) (when (belongs Sort.Body g) Rest.Done))

-- attributes, then expressions
abbrev pub attrs_part : Group → Option Rest
attrs_part g = cond (belongs Sort.Attr g) (Some Rest.Attrs) (when (belongs Sort.Expression g) Rest.Exprs)

-- what a form may still have after a part of a group, if the part may stand there
abbrev pub after : Rest → Group → Option Rest
after Rest.Top g = when (belongs Sort.Module g) Rest.Done
after Rest.Done g = None
after Rest.Item g = when (belongs Sort.Item g) Rest.Item
after Rest.Idents g = when (belongs Sort.Ident g) Rest.Idents
after Rest.Exported g = when (belongs Sort.Exported g) Rest.Done
after Rest.NameOrNone g = when (belongs Sort.Ident g) Rest.Params
after Rest.Name g = when (belongs Sort.Ident g) Rest.Params
after Rest.Params g = params_part g
after Rest.Expr g = when (belongs Sort.Expression g) Rest.Done
after Rest.MaybeExpr g = when (belongs Sort.Expression g) Rest.Done
after Rest.FirstDecl g = when (belongs Sort.Decl g) Rest.Decls
after Rest.Decls g = when (belongs Sort.Decl g) Rest.Decls
after Rest.Test g = when (belongs Sort.Expression g) Rest.Then
after Rest.Then g = when (belongs Sort.Statement g) Rest.Else
after Rest.Else g = when (belongs Sort.Statement g) Rest.Done
after Rest.Statements g = when (belongs Sort.Statement g) Rest.Statements
after Rest.Exprs g = when (belongs Sort.Expression g) Rest.Exprs
after Rest.Callee g = when (belongs Sort.Callee g) Rest.Exprs
after Rest.Tag g = when (belongs Sort.Expression g) Rest.Exprs
after Rest.Object g = when (belongs Sort.Expression g) Rest.Property
after Rest.NameObject g = when (belongs Sort.JsxName g) Rest.Property
after Rest.Property g = when (belongs Sort.Prop g) Rest.Done
after Rest.Operand g = when (belongs Sort.Expression g) Rest.Second
after Rest.Second g = when (belongs Sort.Expression g) Rest.MaybeExpr
after Rest.Target g = when (belongs Sort.Target g) Rest.Expr
after Rest.Arrow g = arrow_part g
after Rest.ArrowOrBody g = arrow_part g
after Rest.Element g = when (belongs Sort.JsxName g) Rest.Attrs
after Rest.Attrs g = attrs_part g
after Rest.Patterns g = when (belongs Sort.Pattern g) Rest.Patterns
after Rest.Defaulted g = when (belongs Sort.Pattern g) Rest.Expr
after Rest.Declared g = when (belongs Sort.Pattern g) Rest.MaybeExpr

-- a jsx name is an `id`, or a `member` over a jsx name
abbrev pub member_object : Rest → Rest
member_object Rest.NameObject = Rest.NameObject
member_object Rest.Element = Rest.NameObject
member_object r = Rest.Object

-- what a form of a kind may have that stands where `around` is wanted
abbrev pub inside : Rest → Kind → Rest
inside around Kind.Module = Rest.Done
inside around Kind.Import = Rest.Idents
inside around Kind.Export = Rest.Exported
inside around Kind.Deffn = Rest.NameOrNone
inside around Kind.Defexpr = Rest.Expr
inside around Kind.Expr = Rest.Expr
inside around Kind.Var = Rest.FirstDecl
inside around Kind.Func = Rest.Name
inside around Kind.Return = Rest.MaybeExpr
inside around Kind.If = Rest.Test
inside around Kind.Block = Rest.Statements
inside around Kind.Id = Rest.Done
inside around Kind.Lit = Rest.Done
inside around Kind.Call = Rest.Callee
inside around Kind.Member = member_object around
inside around Kind.Array = Rest.Exprs
inside around Kind.Op = Rest.Operand
inside around Kind.Assign = Rest.Target
inside around Kind.Arrow = Rest.Arrow
inside around Kind.Fn = Rest.NameOrNone
inside around Kind.Tagged = Rest.Tag
inside around Kind.Jsx = Rest.Element
inside around Kind.Pat = Rest.Patterns
inside around Kind.Dflt = Rest.Defaulted
inside around Kind.Decl = Rest.Declared
inside around Kind.Prop = Rest.Done
inside around Kind.Attr = Rest.Expr
inside around Kind.Kwimport = Rest.Done
inside around Kind.Hand = Rest.Done
inside around Kind.Str = Rest.Done
inside around Kind.Bool = Rest.Done

-- whether a form may end here
abbrev pub closes : Rest → Bool
closes Rest.Done = true
closes Rest.Idents = true
closes Rest.MaybeExpr = true
closes Rest.Decls = true
closes Rest.Else = true
closes Rest.Statements = true
closes Rest.Exprs = true
closes Rest.Second = true
closes Rest.ArrowOrBody = true
closes Rest.Attrs = true
closes Rest.Patterns = true
closes r = false

-- whether a part may follow
abbrev pub goes_on : Rest → Bool
goes_on Rest.Done = false
goes_on r = true

-- whether `-` may stand here in the place of an `id`
abbrev pub may_dash : Rest → Bool
may_dash Rest.NameOrNone = true
may_dash r = false
