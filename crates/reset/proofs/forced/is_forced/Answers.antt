use Rattle.std.proofs.Common.{◌≡◌, ◌||◌, [], length, sym, refl, ap, ◌∙◌, arith}
use Rattle.std.proofs.lemmas.List.{append-nil}
use Rattle.std.proofs.lemmas.Result.{err_from_is_err_and}
use Rattle.tables.specs.Modules.{node_at}
use Rattle.walk.specs.Trees.{flats}
use Rattle.walk.specs.declared.visit.Step.TheVariants.{Into}
use Rattle.walk.proofs.Logged.{full}
use Rattle.reset.specs.Resets.{asked, any}
use Rattle.reset.proofs.Tested.{tested}
use Rattle.reset.proofs.forced.is_forced.Goals as goal

pub returns-in_err-walk : goal.returns-in_err-walk
returns-in_err-walk g c = λ f e small.
    let p = err_from_is_err_and c.from_residual.result c.from_residual.ensures.1 in
    let sh = c.in_err-walk.ensures.shown f [] (e ∙ sym (append-nil (flats f))) (omega (arith, ap length e)) small in
    rw (p.1, p.2) (let h = full _ _ _ _ (λ _ _. Into) (record { answers = λ x. x.0; ends = λ x. x.0 }) sh in (h.0, omega (arith, h.1)))

pub returns : goal.returns
returns g c = λ f e small.
    let sh = c.in_ok-walk.ensures.shown f [] (e ∙ sym (append-nil (flats f))) (omega (arith, ap length e)) small in
    let ns = g.C.Comments.notes c.args.comments.now in
    let p = tested (λ s. s.comments.now ≡ c.args.comments.now) (λ s. s.forced) (λ n. asked ns n.span) (record {
      into = λ x. x.0;
      kept = λ x k. x.1 ∙ k;
      adds = λ s at x k. x.2 ∙ ap (λ m. s.forced || asked (g.C.Comments.notes m) (node_at c.args.nodes.now at).span) k;
      same = λ x. x.1;
    }) [] sh (e ∙ sym (append-nil (flats f))) refl in
    p.1 ∙ ap (any (λ n. asked ns n.span)) (sym e)
