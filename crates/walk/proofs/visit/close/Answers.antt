use Rattle.std.proofs.Common.{◌-◌, length, take, sym, refl, ap, ◌∙◌, subst, arith}
use Rattle.std.proofs.lemmas.List.{length_push}
use Rattle.std.proofs.lemmas.Bool.{leb-true, leb-false}
use Rattle.tables.specs.Lists.{contents}
use Rattle.walk.specs.Turns.{Closed, empty, stays, refused, goes}
use Rattle.walk.proofs.Stacked.{handed_on, last_some, last_none}
use Rattle.walk.proofs.visit.close.Goals as goal

pub loop-top-init : goal.loop-top-init
loop-top-init g c = (refl, λ a held s h. h)

pub returns-then-not-ended : goal.returns-then-not-ended
returns-then-not-ended g c =
    let all = contents c.loop-top.open in
    record {
      does = c.loop-top.invariant.1 _ _ _ (stays (take (length all - 1) all) c.in-Some.top (last_some all c.in-Some.top c.in-Some.ensures) (leb-false _ c.args.at (sym c.ended.ensures ∙ c.if-not-ended.true)));
      room = c.loop-top.invariant.0;
    }

pub loop-top-smaller : goal.loop-top-smaller
loop-top-smaller g c =
    let all = contents c.loop-top.open in
    omega (arith, ap length c.pop.ensures.holds, ap length (last_some all c.in-Some.top c.in-Some.ensures), length_push (take (length all - 1) all) c.in-Some.top)

pub loop-top-preserved : goal.loop-top-preserved
loop-top-preserved g c =
    let all = contents c.loop-top.open in (
      c.pop.ensures.room ∙ c.loop-top.invariant.0,
      λ a held s h.
          c.loop-top.invariant.1 _ _ _ (goes (take (length all - 1) all) c.in-Some.top (last_some all c.in-Some.top c.in-Some.ensures) (leb-true _ c.args.at (sym c.ended.ensures ∙ c.if-not-ended.false)) c.in_ok-leave.ensures (subst (λ xs. Closed g.V.Visitor.leaving c.args.nodes.now c.args.at xs c.leave.new.self a held s) c.pop.ensures.holds h)),
    )

pub returns-in_err-leave : goal.returns-in_err-leave
returns-in_err-leave g c =
    let all = contents c.loop-top.open in
    record {
      does = rw (handed_on c.from_residual.result _ c.from_residual.ensures.1, c.pop.ensures.holds) (c.loop-top.invariant.1 _ _ _ (refused (take (length all - 1) all) c.in-Some.top (last_some all c.in-Some.top c.in-Some.ensures) (leb-true _ c.args.at (sym c.ended.ensures ∙ c.if-not-ended.false)) c.in_err-leave.ensures));
      room = c.pop.ensures.room ∙ c.loop-top.invariant.0;
    }

pub returns : goal.returns
returns g c =
    record {
      does = c.loop-top.invariant.1 _ _ _ (empty (last_none (contents c.loop-top.open) c.in_default.ensures));
      room = c.loop-top.invariant.0;
    }
