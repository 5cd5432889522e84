use Rattle.std.proofs.Common.{rules, leb}
use Rattle.std.proofs.lemmas.List.Sorted.{IsPartitionPoint-from_clause}
use Rattle.comments.proofs.Ascending.{partitioned, place}
use Rattle.comments.proofs.by_position.ByPosition.place_for.Goals as goal

pub returns-clause-order : goal.returns-clause-order
returns-clause-order c =
    let s = c.args.self.now in
    let p = c.args.position in
    let rows = c.notes.ensures in
    let found = rw rows at c.partition_point.ensures in
    let point = IsPartitionPoint-from_clause (λ r. leb r.position p) _ c.partition_point.result found.partitioned (partitioned _ s.order p) (λ a r f k. search rules) in
    place _ s.order p c.partition_point.result found.bound point
