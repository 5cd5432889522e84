use Rattle.std.proofs.Common.{◌≡◌, ℕ, ◌+◌, ◌<◌, false, drop}
use Rattle.comments.specs.Notes.{begins}
use Rattle.comments.proofs.search.contains.Given as goal

-- the bytes that are left decide whether the needle stands here
abbrev pub invariant-bytes : goal.invariant-bytes
invariant-bytes l = begins (drop (l.at + l.k) l.text) (drop l.k l.needle) ≡ begins (drop l.at l.text) l.needle

-- it stands at no place before this one
abbrev pub invariant-places : goal.invariant-places
invariant-places l = record {
  unfound : l.found ≡ false;
  nowhere : (k : ℕ) → k < l.at → begins (drop k l.text) l.needle ≡ false;
}
