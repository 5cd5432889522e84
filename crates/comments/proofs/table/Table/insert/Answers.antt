use Rattle.std.proofs.Common.{◌≡◌, ◌+◌, ◌<◌, length, Ok, refl, sym, ap, ◌∙◌, arith}
use Rattle.comments.proofs.Rows.{length-held, room_same, sum_more, positions-more, within_more, held_more}
use Rattle.comments.proofs.table.Table.insert.Goals as goal

pub returns-then-not-has_room : goal.returns-then-not-has_room
returns-then-not-has_room c =
    let off = sym (room_same c.args.self.now (length c.args.text.now) c.has_room.result c.has_room.ensures) ∙ c.if-not-has_room.true in
    rw off (record { answer = refl; holds = refl; positions = refl })

pub invariant_of-self : goal.invariant_of-self
invariant_of-self c =
    let t = c.args.self.now in
    let new = c.insert_record.new.records in
    let rows = c.insert_record.ensures in
    let spare = c.has_room.ensures.0 c.if-not-has_room.false in
    let same : length new ≡ length t.records = c.insert_record.auto.records in
    let few : t.count < length new = omega (arith, t.places, spare.0) in
    record {
      places = same ∙ t.places;
      area = c.write_text.auto.bytes ∙ t.area;
      few = omega (arith, spare.0);
      short = spare.1;
      sum = sum_more t new c.args.at c.args.side c.args.position c.args.text.now rows;
      within = within_more t new c.args.at c.args.side c.args.position c.args.text.now rows few;
    }

pub returns : goal.returns
returns c =
    let t = c.args.self.now in
    let put = c.args.text.now in
    let new = c.insert_record.new.records in
    let rows = c.insert_record.ensures in
    let on = sym (room_same t (length put) c.has_room.result c.has_room.ensures) ∙ c.if-not-has_room.false in
    rw on (record {
      answer = ap (λ k. Ok (k + 1)) (sym (length-held t));
      holds = held_more t new c.args.at c.args.side c.args.position put rows c.write_text.new.bytes c.write_text.ensures;
      positions = positions-more t new c.args.at c.args.side c.args.position put rows;
    })
