-- The printed text tells the module, if each form says what its label asks for. Made forms are among these: handles, texts, `true` and `false`.
use Rattle.std.specs.Prelude.{◌≡◌, ◌^◌, ◌<◌}
use Rattle.grammar.specs.Labels.{label_of}
use Rattle.grammar.specs.Parts.{Said}
use Rattle.grammar.specs.Forms.{Says, Form, form, Forms, nil, cons, printed}

-- spans are as the tables hold them
abbrev pub Sound : Says → Type 0
Sound s = (s.span.lo < 2 ^ 32) × (s.span.hi < 2 ^ 32) × Said (label_of s.kind) s

abbrev mutual
  pub AllSaid : Form → Type 0
  AllSaid (form s fs) = Sound s × AllSaids fs

  pub AllSaids : Forms → Type 0
  AllSaids nil = Unit {0}
  AllSaids (cons t fs) = AllSaid t × AllSaids fs

-- no two such modules print alike; which parts a form has does not matter
abbrev pub Injective : Type 0
Injective = (m n : Form) → AllSaid m → AllSaid n → printed m ≡ printed n → m ≡ n
