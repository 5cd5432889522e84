use Rattle.std.proofs.Common.{◌≡◌, ◌+◌, ◌<◌, ◌≤◌, min, List, [], ◌∷◌, ◌++◌, length, drop, sym, refl, ap, ◌∙◌, subst, arith, rules}
use Rattle.tables.specs.Modules.{bytes_at, next_at}
use Rattle.tables.specs.declared.node.Node.{Node}
use Rattle.walk.specs.Trees.{Tree, node, flat, flats}
use Rattle.grammar.specs.Forms.{head, written}
use Rattle.printer.specs.Held.{saying, said, held}
use Rattle.printer.specs.Writes.{Puts, Adds}
use Rattle.printer.specs.Printing.{PutsForm}
use Rattle.printer.proofs.Adding.{adds_behind, adds_then, puts_from, puts_then}
use Rattle.printer.proofs.Bounds.{few-more}
use Rattle.printer.proofs.Rows.{Left, turn, turned, none_left, over_all, here, started, closing, closing-more}
use Rattle.printer.proofs.+form.Goals as goal

pub forms::put_form-loop-p-init : goal.forms::put_form-loop-p-init
forms::put_form-loop-p-init t c =
    let b = c.siblings-p-items.ensures in
    let same = c.into_iter-p-iterator.ensures.into_iter_gives in
    let first = ap (λ s. s.at) same ∙ b.first ∙ c.saturating_add.ensures in
    record {
      table = ap (λ s. s.nodes.now) same ∙ b.table;
      last = ap (λ s. s.end) same ∙ b.last;
      inside = λ h. omega (arith, first, h);
      fits = omega (arith, (c.head.ensures.writes.adds (omega arith)).count);
      few = omega (arith, first, c.head.ensures.few, (c.head.ensures.writes.adds (omega arith)).count);
      memory = refl;
      gives = λ k f rest e end.
          started c.args.m.now.nodes.now c.args.at c.args.end (closing c.args.m.now.text.now) c.head.new.self.out.now c.head.new.self.n c.into_iter-p-iterator.result.at k f rest e end first (omega arith);
    }

pub forms::put_form-loop-p-preserved : goal.forms::put_form-loop-p-preserved
forms::put_form-loop-p-preserved t c =
    let nodes = c.args.m.now.nodes.now in
    let text = c.args.m.now.text.now in
    let inv = c.loop-p.invariant in
    let p = c.in-Some.p in
    let part = c.min-next.result in
    let q = turned c.loop-p.p-iterator c.next.new.self p c.in-Some.ensures.steps in
    let next : c.next.new.self.at ≡ c.next-in-loop-p.result = q.next ∙ ap (λ xs. next_at xs p) inv.table ∙ sym c.next-in-loop-p.ensures.value in
    let lt : p < c.args.end = omega (arith, q.below, q.place, inv.last) in
    let below : c.args.at < p = omega (arith, q.place, lt, inv.inside (omega (arith, q.below, inv.last))) in
    let on : p < c.next-in-loop-p.result = c.next-in-loop-p.ensures.on (omega arith) in
    let later : p < part = omega (arith, on, lt, c.min-next.ensures) in
    let blank = c.bytes.ensures.adds inv.fits in
    let form = c.form.ensures in
    let few = few-more c.args.at p part c.loop-p.w.n c.bytes.new.self.n c.form.new.self.n below later (omega (arith, inv.few, q.place, lt)) blank.count form.few in
    record {
      table = q.table ∙ inv.table;
      last = q.last ∙ inv.last;
      inside = λ _. omega (arith, next, on, below);
      fits = form.fits;
      few = omega (arith, few, next, c.min-next.ensures);
      memory = form.memory ∙ c.bytes.ensures.memory ∙ inv.memory;
      gives = λ k f rest e end.
          turn nodes c.args.end (closing text) (closing text f) c.head.new.self.out.now c.head.new.self.n {p = p} (subst (λ i. Left nodes c.args.end (closing text) (closing text f) c.head.new.self.out.now c.head.new.self.n i c.loop-p.w.out.now c.loop-p.w.n) (sym q.place) (inv.gives k f rest e end)) lt (omega arith) c.next.new.self.at part c.form.new.self.n c.form.new.self.out.now
          (next ∙ c.next-in-loop-p.ensures.value) (c.min-next.ensures ∙ ap (λ i. min i c.args.end) (sym next))
          (λ one others behind at to o r a.
          let w = written (held text one) in
          subst (λ s. Adds s c.loop-p.w.out.now c.loop-p.w.n o r) (sym (closing-more text one others))
          (adds_then (32 ∷ []) (w ++ closing text others) blank
          (adds_then w (closing text others) (form.whole one behind at to) a)));
    }

pub forms::put_form-returns : goal.forms::put_form-returns
forms::put_form-returns t c =
    let same = sym (c.bytes-2.ensures.memory ∙ c.loop-p.invariant.memory ∙ c.head.ensures.writes.memory) in
    subst (λ o. PutsForm c.args.m.now.nodes.now c.args.m.now.text.now c.args.at c.args.end c.args.out.now o c.bytes-2.new.self.n) (sym (search (rules, same)))
    record {
      few = omega (arith, last.count, c.loop-p.invariant.few, c.loop-p.invariant.last, none_left _ _ c.in-None.ensures.steps);
      whole = all;
    }
  where
    last : Adds (41 ∷ []) c.loop-p.w.out.now c.loop-p.w.n c.bytes-2.new.self.out.now c.bytes-2.new.self.n
    last = c.bytes-2.ensures.adds c.loop-p.invariant.fits

    all : (u : Tree) (rest : List Node) → drop c.args.at c.args.m.now.nodes.now ≡ flat u ++ rest → c.args.end ≡ c.args.at + length (flat u) → Puts (written (held c.args.m.now.text.now u)) c.args.out.now c.bytes-2.new.self.out.now c.bytes-2.new.self.n
    all (node k f) rest e end =
        let nodes = c.args.m.now.nodes.now in
        let text = c.args.m.now.text.now in
        let over : c.args.end ≤ c.loop-p.p-iterator.at = omega (arith, c.loop-p.invariant.last, none_left _ _ c.in-None.ensures.steps) in
        puts_then (40 ∷ head (said text k)) (closing text f)
        (subst (λ n. Puts (40 ∷ head (saying n (bytes_at text n.text))) c.args.out.now c.head.new.self.out.now c.head.new.self.n) (here nodes c.args.at _ (flats f ++ rest) e) (puts_from _ (c.head.ensures.writes.adds (omega arith))))
        (over_all nodes c.args.end (closing text) (closing text f) c.head.new.self.out.now c.head.new.self.n (c.loop-p.invariant.gives k f rest e end) over c.bytes-2.new.self.out.now c.bytes-2.new.self.n last)

pub pieces::Output::form-returns : goal.pieces::Output::form-returns
pieces::Output::form-returns t c =
    let b = c.put.ensures.behind in
    let form : PutsForm c.args.m.now.nodes.now c.args.m.now.text.now c.args.at c.args.end b.shown.now b.left.now b.result = search b.returns in
    record {
      fits = omega (arith, b.count);
      few = omega (arith, b.count, form.few);
      whole = λ one rest at to. adds_behind (written (held c.args.m.now.text.now one)) b (form.whole one rest at to);
      memory = c.put.ensures.memory;
    }
