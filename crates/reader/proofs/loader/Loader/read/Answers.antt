use Rattle.std.proofs.Common.{◌≡◌, Ok, sym, refl, ap, ◌∙◌, ap₂}
use Rattle.std.proofs.lemmas.Result.{err_from_is_err_and}
use Rattle.tables.specs.Lists.{room}
use Rattle.lex.specs.Tokens.{view as shown, foul}
use Rattle.reader.specs.Machine.{step, to, go, refused}
use Rattle.reader.specs.Steps.{view, wants}
use Rattle.reader.proofs.Going.{Turn, turn_on, turn_less, turn_stop, turn_done, turn_foul}
use Rattle.reader.proofs.loader.Loader.read.Goals as goal
use Rattle.reader.proofs.loader.Loader.read.Goals.{In_ok-place, In-Some}

-- the step at a token, with the room and the limit that the call began with
kept : (c : In_ok-place) → let s = view c.loop-place.self c.loop-place.nodes c.loop-place.text in step (room c.loop-place.self.frames) c.loop-place.self.limit s c.in_ok-place.place (shown c.in_ok-place.token) ≡ step (room c.args.self.now.frames) c.args.self.now.limit s c.in_ok-place.place (shown c.in_ok-place.token)
kept c =
    let same = c.loop-place.invariant.same in
    ap₂ (λ d limit. step d limit (view c.loop-place.self c.loop-place.nodes c.loop-place.text) c.in_ok-place.place (shown c.in_ok-place.token)) same.room same.limit

turn : (c : In_ok-place) → Turn c.args.form.now c.loop-place.reader c.next.new.self c.in_ok-place.place (shown c.in_ok-place.token)
turn c =
    let i = c.in_ok-place.ensures in
    record { text = c.loop-place.invariant.text; place = i.reads.0; token = i.reads.1; next = i.at }

-- a turn that goes on
onward : (c : In-Some) → go (to (view c.step.new.self c.step.new.nodes c.step.new.text) c.in-Some.mode) ≡ step (room c.loop-place.self.frames) c.loop-place.self.limit (view c.loop-place.self c.loop-place.nodes c.loop-place.text) c.in_ok-place.place (shown c.in_ok-place.token)
onward c = ap (λ m. wants (Ok m) (view c.step.new.self c.step.new.nodes c.step.new.text)) (sym c.in-Some.is) ∙ c.in_ok-mode.ensures.does

pub loop-place-smaller : goal.loop-place-smaller
loop-place-smaller c = turn_less (turn (goal.at.loop-place-smaller c).In_ok-place) _ _ (view c.loop-place.self c.loop-place.nodes c.loop-place.text) (to (view c.step.new.self c.step.new.nodes c.step.new.text) c.in-Some.mode) (onward (goal.at.loop-place-smaller c).In-Some ∙ kept (goal.at.loop-place-smaller c).In_ok-place)

pub loop-place-preserved : goal.loop-place-preserved
loop-place-preserved c =
    let s = c.step.ensures.same in
    let inv = c.loop-place.invariant in
    record {
      text = c.next.ensures.text ∙ inv.text;
      same = record { room = s.room ∙ inv.same.room; limit = s.limit ∙ inv.same.limit };
      gives = turn_on (turn (goal.at.loop-place-preserved c).In_ok-place) _ _ (view c.loop-place.self c.loop-place.nodes c.loop-place.text) (to (view c.step.new.self c.step.new.nodes c.step.new.text) c.in-Some.mode) (onward (goal.at.loop-place-preserved c).In-Some ∙ kept (goal.at.loop-place-preserved c).In_ok-place) ∙ inv.gives;
    }

pub returns-in_err-place : goal.returns-in_err-place
returns-in_err-place c =
    let p = err_from_is_err_and c.from_residual.result c.from_residual.ensures.1 in
    let i = c.in_err-place.ensures in
    let inv = c.loop-place.invariant in
    let u : Turn c.args.form.now c.loop-place.reader c.next.new.self c.loop-place.reader.at foul = record { text = inv.text; place = refl; token = sym i.reads.1; next = i.at } in
    rw p.1 (ap refused p.2 ∙ turn_foul u _ _ (view c.loop-place.self c.loop-place.nodes c.loop-place.text) _ i.reads.0 ∙ inv.gives)

pub returns-in_err-mode : goal.returns-in_err-mode
returns-in_err-mode c =
    let p = err_from_is_err_and c.from_residual-in_err-mode.result c.from_residual-in_err-mode.ensures.1 in
    let inv = c.loop-place.invariant in
    rw p.1 (ap refused p.2 ∙ turn_stop (turn (goal.at.returns-in_err-mode c).In_ok-place) _ _ (view c.loop-place.self c.loop-place.nodes c.loop-place.text) _ (c.in_err-mode.ensures.does ∙ kept (goal.at.returns-in_err-mode c).In_ok-place) ∙ inv.gives)

pub returns-in_default : goal.returns-in_default
returns-in_default c =
    let v = view c.step.new.self c.step.new.nodes c.step.new.text in
    let inv = c.loop-place.invariant in
    turn_done (turn (goal.at.returns-in_default c).In_ok-place) _ _ (view c.loop-place.self c.loop-place.nodes c.loop-place.text) v (ap (λ m. wants (Ok m) v) (sym c.in_default.is) ∙ c.in_ok-mode.ensures.does ∙ kept (goal.at.returns-in_default c).In_ok-place) ∙ inv.gives
