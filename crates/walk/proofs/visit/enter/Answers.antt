use Rattle.std.proofs.Common.{[], ◌∷◌, ◌++◌, Ok, refl, ap, ◌∙◌, subst}
use Rattle.tables.specs.Lists.{contents, room}
use Rattle.walk.specs.Turns.{refused, large}
use Rattle.walk.proofs.Stacked.{handed_on, push-refused, push_taken, goes-into, goes-past}
use Rattle.walk.proofs.visit.enter.Goals as goal
use Rattle.walk.proofs.visit.enter.Goals.{in-Into+in_ok-push-in-Into, in-Past}

pub returns-in_err-step : goal.returns-in_err-step
returns-in_err-step g c =
    record {
      does = rw (handed_on c.from_residual.result _ c.from_residual.ensures.1) (refused c.in_err-step.ensures);
      room = refl;
    }

pub returns-in_err-push-in-Into : goal.returns-in_err-push-in-Into
returns-in_err-push-in-Into g c =
    let p = push-refused c.args.open.now c.narrow.result c.push.new.self c.push.ensures.holds c.in_err-push-in-Into.field-0.0 c.in_err-push-in-Into.ensures.answer in
    record {
      does = rw (handed_on c.from_residual-in_err-push-in-Into.result _ c.from_residual-in_err-push-in-Into.ensures.1, p.holds) (large (subst (λ a. g.V.Visitor.entering c.args.visitor.now c.args.nodes.now c.args.at c.args.above (Ok a) c.enter.new.self) c.in-Into.is c.in_ok-step.ensures) p.full);
      room = c.push.ensures.room;
    }

pub returns : goal.returns
returns g c =
    elim c.match-step.branch [
      | in-Into+in_ok-push-in-Into w ↦
          let p = push_taken c.args.open.now w.narrow.result w.push.new.self w.push.ensures.holds w.in_ok-push-in-Into.field-0 w.in_ok-push-in-Into.ensures.answer in
          record {
            does = goes-into c.in_ok-step.ensures c.onward.ensures w.in-Into.is p.fits (ap contents w.open-is ∙ p.holds ∙ ap (λ n. contents c.args.open.now ++ n ∷ []) w.narrow.ensures);
            room = ap room w.open-is ∙ w.push.ensures.room;
          }
      | in-Past w ↦
          record {
            does = goes-past c.in_ok-step.ensures c.onward.ensures w.in-Past.is (ap contents w.open-is);
            room = ap room w.open-is;
          }
    ]
