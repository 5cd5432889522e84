use Rattle.std.proofs.Common.{sym, ◌∙◌, inr, arith, length-drop}
use Rattle.std.proofs.lemmas.List.{drop_all}
use Rattle.comments.proofs.Needles.{begins_all, byte_more, place_off, nowhere_more, has_here, has_none}
use Rattle.comments.proofs.search.contains.Goals as goal

pub bytes-preserved : goal.bytes-preserved
bytes-preserved c =
    byte_more c.args.text.now c.args.needle.now c.places.at c.bytes.k (omega arith) c.bytes-test.true c.bytes.invariant c.if-text-at.false

pub places-preserved : goal.places-preserved
places-preserved c = record {
  unfound = c.places.invariant.unfound;
  nowhere = nowhere_more c.args.text.now c.args.needle.now c.places.at c.places.invariant.nowhere (place_off c.args.text.now c.args.needle.now c.places.at c.bytes.k (omega arith) c.bytes-test.true c.bytes.invariant c.if-text-at.true);
}

pub returns-after-places : goal.returns-after-places
returns-after-places c = c.places.invariant.unfound ∙ sym (has_none c.args.text.now c.args.needle.now c.places.at (omega arith) c.places.invariant.nowhere)

pub returns-after-bytes : goal.returns-after-bytes
returns-after-bytes c =
    let over = drop_all c.bytes.k c.args.needle.now c.bytes-test.false in
    sym (has_here c.args.text.now c.args.needle.now c.places.at (sym c.bytes.invariant ∙ begins_all _ _ (omega (arith, length-drop c.bytes.k c.args.needle.now)) (inr over)))
