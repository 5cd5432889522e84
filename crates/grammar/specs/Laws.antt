-- The reader's states allow the same modules as the table of parts, and from each of them there is a way to the end.
use Rattle.std.specs.Prelude.{◌≡◌, ℕ, true, ◌≢◌, Some}
use Rattle.tables.specs.declared.kind.Kind.{Kind}
use Rattle.tables.specs.declared.kind.Word.{Word}
use Rattle.grammar.specs.declared.group.Group.{Group}
use Rattle.grammar.specs.declared.group.Sort.{Sort}
use Rattle.grammar.specs.declared.rest.Rest.{Rest}
use Rattle.grammar.specs.Forms.{Says, Form, Forms, form}
use Rattle.grammar.specs.Parts.{Proper, Good}
use Rattle.grammar.specs.Rests.{after, inside, goes_on}
use Rattle.grammar.specs.Readings.{opening, Formed, Reads, Items}

-- what the reader allows is allowed by the table
abbrev pub Sound : Type 0
Sound = (limit : ℕ) (s : Says) (items : Forms) → s.kind ≡ Kind.Module → Proper limit s → Items limit items → Good limit Sort.Module (form s items)

-- what the table allows is allowed by the reader
abbrev pub Complete : Type 0
Complete = (limit : ℕ) (s : Says) (items : Forms) → Good limit Sort.Module (form s items) → (s.kind ≡ Kind.Module) × Proper limit s × Items limit items

abbrev pub Agree : Type 0
Agree = Sound × Complete

-- in every state but the last something may follow
abbrev pub GoesOn : Type 0
GoesOn = (limit : ℕ) (r : Rest) → goes_on r ≡ true → (t : Form) × (r' : Rest) × Formed limit r t r'

-- every state of a form that is being read can be brought to an end; items need none
abbrev pub Completable : Type 0
Completable = (limit : ℕ) (r : Rest) → r ≢ Rest.Item → (fs : Forms) × Reads limit r fs

-- no form within a form is read as an item
pub record ItemsApart : Type 0 where
  pub within : (r : Rest) (k : Kind) (n : Word) → opening (inside r k) n ≢ Rest.Item
  pub onward : (r r' : Rest) (g : Group) → after r g ≡ Some r' → r ≢ Rest.Item → r' ≢ Rest.Item
