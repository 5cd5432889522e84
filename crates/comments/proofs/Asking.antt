-- A search for a note among the records of a table.
use Rattle.std.proofs.Common.{◌≡◌, ℕ, ◌<◌, Bool, true, false, ◌&&◌, eqb, List, map, length, get_or, take, refl, ◌∙◌}
use Rattle.std.proofs.lemmas.List.Recursion.{or_at, or_from_places}
use Rattle.std.proofs.lemmas.Bool.{ne_eqb, and_left, and_right}
use Rattle.comments.specs.declared.types.Side.{Side}
use Rattle.comments.specs.declared.records.Record.{Record}
use Rattle.comments.specs.declared.table.Table.{Table}
use Rattle.comments.specs.Notes.{Note, number, has, told, answers}
use Rattle.comments.specs.Records.{read, blank}
use Rattle.comments.specs.Tables.{recorded, held}
use Rattle.comments.proofs.Order.{told-ordered}

pub answers-position : (s : Side) (p : ℕ) (nd : List ℕ) (n : Note) → (n.position ≡ p → ⊥) → answers s p nd n ≡ false
answers-position s p nd n off =
    and_right (eqb (number n.side) (number s)) (eqb n.position p && has n.text nd) (and_left (eqb n.position p) (has n.text nd) (ne_eqb n.position p off))

abbrev pub rows : Table → List Record
rows t = take t.count t.records

module _ (t : Table) (s : Side) (p : ℕ) (nd : List ℕ) where
  abbrev pub answered : Record → Bool
  answered r = answers s p nd (read t.bytes r)

  -- no note before place i answers
  abbrev pub Unanswered : ℕ → Type 0
  Unanswered i = (k : ℕ) (d : Record) → k < i → answered (get_or (rows t) k d) ≡ false

  pub told_none : Unanswered (length (rows t)) → told (held t) s p nd ≡ false
  told_none off =
      told-ordered s p nd (recorded t) ∙ or_from_places (λ rs. told (map (read t.bytes) rs) s p nd) answered refl (λ _ _. refl) (rows t) blank (λ i h. off i blank h)

  pub told_at : (i : ℕ) (d : Record) → i < length (rows t) → answered (get_or (rows t) i d) ≡ true → told (held t) s p nd ≡ true
  told_at i d h on =
      told-ordered s p nd (recorded t) ∙ or_at (λ rs. told (map (read t.bytes) rs) s p nd) answered refl (λ _ _. refl) (rows t) i d h on
