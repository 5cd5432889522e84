-- Appending to a text table: what it holds stays in front, and its memory keeps its length.
use Rattle.std.specs.Prelude.{◌≡◌, ℕ, ◌≤◌, length, take}
use Rattle.tables.specs.declared.list.List.{List as Bounded}
use Rattle.tables.specs.Lists.{contents, room, SameMemory}

pub record Extends (text text' : Bounded ℕ) : Type 0 where
  pub stays : take (length (contents text)) (contents text') ≡ contents text
  pub more : length (contents text) ≤ length (contents text')
  pub long : room text' ≡ room text
  pub memory : SameMemory text text'
