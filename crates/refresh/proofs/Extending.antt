-- A text table that grows step by step.
use Rattle.std.proofs.Common.{ℕ, length, take, sym, refl, ap, ◌∙◌, arith}
use Rattle.std.proofs.lemmas.List.{take-take, take_all}
use Rattle.tables.specs.declared.list.List.{List as Bounded}
use Rattle.tables.specs.Lists.{contents}
use Rattle.refresh.specs.Appended.{Extends}

-- nothing appended
pub still : (t : Bounded ℕ) → Extends t t
still t = record { stays = take_all (length (contents t)) (contents t) (omega arith); more = omega arith; long = refl; memory = refl }

-- one more after those so far
pub further : {s t u : Bounded ℕ} → Extends s t → Extends t u → Extends s u
further {s} {t} {u} a b = record {
  stays = sym (take-take (length (contents s)) (length (contents t)) (contents u) a.more) ∙ (ap (take (length (contents s))) b.stays ∙ a.stays);
  more = omega (arith, a.more, b.more);
  long = b.long ∙ a.long;
  memory = b.memory ∙ a.memory;
}
