-- The same modules as the reader comes upon them, part by part.
use Rattle.std.specs.Prelude.{◌≡◌, ℕ, true, Some}
use Rattle.tables.specs.declared.kind.Word.{Word}
use Rattle.grammar.specs.declared.rest.Rest.{Rest}
use Rattle.grammar.specs.Groups.{group}
use Rattle.grammar.specs.Forms.{Says, Form, form, Forms, nil, cons}
use Rattle.grammar.specs.Parts.{Proper}
use Rattle.grammar.specs.Rests.{after, inside, closes}

-- what follows the `id` or `-` of a function
abbrev pub by_name : Word → Rest
by_name Word.Named = Rest.Name
by_name w = Rest.Params

-- what a form may have after it has said `-` or not
abbrev pub opening : Rest → Word → Rest
opening Rest.NameOrNone w = by_name w
opening r w = r

mutual
  -- a form where r is wanted, after which r' is wanted
  pub data Formed (limit : ℕ) : Rest → Form → Rest → Type 0 where
    formed : {r r' : Rest} {s : Says} {fs : Forms} → after r (group s.kind) ≡ Some r' → Proper limit s → Reads limit (opening (inside r s.kind) s.word) fs → Formed limit r (form s fs) r'

  -- forms where r is wanted, up to the end
  pub data Reads (limit : ℕ) : Rest → Forms → Type 0 where
    last : {r : Rest} → closes r ≡ true → Reads limit r nil
    more : {r r' : Rest} {t : Form} {fs : Forms} → Formed limit r t r' → Reads limit r' fs → Reads limit r (cons t fs)

-- the items of a module, which stand on lines of their own: no bracket ends them
pub data Items (limit : ℕ) : Forms → Type 0 where
  end : Items limit nil
  item : {t : Form} {fs : Forms} → Formed limit Rest.Item t Rest.Item → Items limit fs → Items limit (cons t fs)
