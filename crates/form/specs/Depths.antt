-- How many brackets of a module are open at the same time.
use Rattle.std.specs.Prelude.{ℕ, suc, max}
use Rattle.grammar.specs.Forms.{Form, form, Forms, nil, cons}

abbrev mutual
  pub depth : Form → ℕ
  depth (form s fs) = suc (depths fs)

  pub depths : Forms → ℕ
  depths nil = 0
  depths (cons t fs) = max (depth t) (depths fs)

-- a module's own bracket is closed before its items begin
abbrev pub nesting : Form → ℕ
nesting (form s items) = max 1 (depths items)
