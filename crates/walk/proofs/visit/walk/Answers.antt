use Rattle.std.proofs.Common.{◌<◌, sym, refl, ◌∙◌, arith}
use Rattle.walk.specs.Shown.{still}
use Rattle.walk.proofs.Rounds.{start, close_left, enter_ready, at_end, finish, later, went_close, went_enter}
use Rattle.walk.proofs.Stacked.{handed_on}
use Rattle.walk.proofs.visit.walk.Goals as goal

pub loop-at-init : goal.loop-at-init
loop-at-init g c = (refl, still, λ size is f rest e ends small. start _ _ _ _ _ _ _ _ rest _ c.clear.ensures.empty e ends)

pub returns-in_err-above : goal.returns-in_err-above
returns-in_err-above g c =
    record {
      shown = λ f rest e ends small.
          rw (handed_on c.from_residual.result _ c.from_residual.ensures.1) (close_left _ _ _ _ _ _ _ _ (c.loop-at.invariant.2 _ (sym c.clear.ensures.room) f rest e ends small) c.in_err-above.ensures.does);
      went = went_close c.loop-at.invariant.1 c.close.ensures.does;
      room = c.close.ensures.room ∙ c.loop-at.invariant.0 ∙ c.clear.ensures.room;
    }

pub returns-in_err-at : goal.returns-in_err-at
returns-in_err-at g c =
    record {
      shown = λ f rest e ends small.
          let size = c.close.ensures.room ∙ c.loop-at.invariant.0 ∙ c.clear.ensures.room in
          let ready = close_left _ _ _ _ _ _ _ _ (c.loop-at.invariant.2 _ (sym c.clear.ensures.room) f rest e ends small) c.in_ok-above.ensures.does in
          rw (handed_on c.from_residual-in_err-at.result _ c.from_residual-in_err-at.ensures.1) (enter_ready _ _ _ _ _ _ _ _ ready c.loop-at-test.true small size c.in_err-at.ensures.does);
      went = went_enter (went_close c.loop-at.invariant.1 c.close.ensures.does) c.enter.ensures.does;
      room = c.enter.ensures.room ∙ c.close.ensures.room ∙ c.loop-at.invariant.0 ∙ c.clear.ensures.room;
    }

pub loop-at-smaller : goal.loop-at-smaller
loop-at-smaller g c =
    let test = c.loop-at-test.true in
    let fits = c.ranges.end in
    let on : c.loop-at.at < c.in_ok-at.at = later c.in_ok-at.ensures.does (omega arith) in
    omega arith

pub loop-at-preserved : goal.loop-at-preserved
loop-at-preserved g c = (
  c.enter.ensures.room ∙ c.close.ensures.room ∙ c.loop-at.invariant.0,
  went_enter (went_close c.loop-at.invariant.1 c.close.ensures.does) c.enter.ensures.does,
  λ size is f rest e ends small.
      let ready = close_left _ _ _ _ _ _ _ _ (c.loop-at.invariant.2 size is f rest e ends small) c.in_ok-above.ensures.does in
      enter_ready _ _ _ _ _ _ _ _ ready c.loop-at-test.true small (c.close.ensures.room ∙ c.loop-at.invariant.0 ∙ sym is) c.in_ok-at.ensures.does,
)

pub returns-in_err-close : goal.returns-in_err-close
returns-in_err-close g c =
    record {
      shown = λ f rest e ends small.
          let left = c.loop-at.invariant.2 _ (sym c.clear.ensures.room) f rest e ends small in
          rw (handed_on c.from_residual-in_err-close.result _ c.from_residual-in_err-close.ensures.1) (close_left _ _ _ _ _ _ _ _ (at_end _ _ _ _ _ _ _ _ left c.loop-at-test.false) c.in_err-close.ensures.does);
      went = went_close c.loop-at.invariant.1 c.close-2.ensures.does;
      room = c.close-2.ensures.room ∙ c.loop-at.invariant.0 ∙ c.clear.ensures.room;
    }

pub returns : goal.returns
returns g c =
    record {
      shown = λ f rest e ends small.
          let left = c.loop-at.invariant.2 _ (sym c.clear.ensures.room) f rest e ends small in
          finish _ _ _ _ _ _ _ _ (close_left _ _ _ _ _ _ _ _ (at_end _ _ _ _ _ _ _ _ left c.loop-at-test.false) c.in_ok-close.ensures.does);
      went = went_close c.loop-at.invariant.1 c.close-2.ensures.does;
      room = c.close-2.ensures.room ∙ c.loop-at.invariant.0 ∙ c.clear.ensures.room;
    }
