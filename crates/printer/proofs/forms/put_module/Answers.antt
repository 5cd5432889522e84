use Rattle.std.proofs.Common.{◌≡◌, ◌<◌, ◌≤◌, min, max, [], ◌∷◌, length, sym, refl, ap, ◌∙◌, subst, arith, rules}
use Rattle.std.proofs.lemmas.List.{append-nil}
use Rattle.lex.specs.Written.{over}
use Rattle.tables.specs.Modules.{node_at, bytes_at, next_at}
use Rattle.walk.specs.Trees.{Tree, node, flat, flats}
use Rattle.grammar.specs.Forms.{head, written, printed}
use Rattle.printer.specs.Held.{saying, said, held}
use Rattle.printer.specs.Writes.{Puts}
use Rattle.printer.proofs.Adding.{adds_then, adds_none, puts_from, puts_then}
use Rattle.printer.proofs.Bounds.{few_line, few_all}
use Rattle.printer.proofs.Rows.{Left, turn, turned, none_left, over_all, here, started, lining}
use Rattle.printer.proofs.forms.put_module.Goals as goal

pub loop-p-init : goal.loop-p-init
loop-p-init c =
    let b = c.siblings-p-items.ensures in
    let same = c.into_iter-p-iterator.ensures.into_iter_gives in
    let first = ap (λ s. s.at) same ∙ b.first in
    let start = c.head.ensures.writes.adds (omega arith) in
    let opened = c.bytes.ensures.adds (omega (arith, start.count)) in
    record {
      table = ap (λ s. s.nodes.now) same ∙ b.table;
      last = ap (λ s. s.end) same ∙ b.last;
      inside = omega (arith, first);
      fits = omega (arith, opened.count);
      few = omega (arith, start.count, opened.count, c.head.ensures.few);
      memory = refl;
      gives = λ k f e.
          started c.args.m.now.nodes.now 0 (length c.args.m.now.nodes.now) (lining c.args.m.now.text.now) c.bytes.new.self.out.now c.bytes.new.self.n c.into_iter-p-iterator.result.at k f [] (e ∙ sym (append-nil (flat (node k f)))) (ap length e ∙ omega arith) (omega (arith, first)) (omega arith);
    }

pub loop-p-preserved : goal.loop-p-preserved
loop-p-preserved c =
    let nodes = c.args.m.now.nodes.now in
    let text = c.args.m.now.text.now in
    let inv = c.loop-p.invariant in
    let p = c.in-Some.p in
    let part = c.min-next.result in
    let q = turned c.loop-p.p-iterator c.next.new.self p c.in-Some.ensures.steps in
    let next : c.next.new.self.at ≡ c.next-in-loop-p.result = q.next ∙ ap (λ xs. next_at xs p) inv.table ∙ sym c.next-in-loop-p.ensures.value in
    let lt : p < length nodes = omega (arith, q.below, q.place, inv.last) in
    let on : p < c.next-in-loop-p.result = c.next-in-loop-p.ensures.on (omega arith) in
    let later : p < part = omega (arith, on, lt, c.min-next.ensures) in
    let form = c.form.ensures in
    let line = c.bytes-in-loop-p.ensures.adds form.fits in
    let few = few_line p part c.loop-p.w.n c.form.new.self.n c.bytes-in-loop-p.new.self.n later (omega (arith, inv.few, inv.inside, q.place, lt)) form.few line.count in
    record {
      table = q.table ∙ inv.table;
      last = q.last ∙ inv.last;
      inside = omega (arith, next, on);
      fits = omega (arith, line.count);
      few = omega (arith, few, next, later, c.min-next.ensures);
      memory = c.bytes-in-loop-p.ensures.memory ∙ form.memory ∙ inv.memory;
      gives = λ k f e.
          turn nodes (length nodes) (lining text) (lining text f) c.bytes.new.self.out.now c.bytes.new.self.n {p = p} (subst (λ i. Left nodes (length nodes) (lining text) (lining text f) c.bytes.new.self.out.now c.bytes.new.self.n i c.loop-p.w.out.now c.loop-p.w.n) (sym q.place) (inv.gives k f e)) lt (omega arith) c.next.new.self.at part c.bytes-in-loop-p.new.self.n c.bytes-in-loop-p.new.self.out.now
          (next ∙ c.next-in-loop-p.ensures.value) (c.min-next.ensures ∙ ap (λ i. min i (length nodes)) (sym next))
          (λ one others behind at to o r a.
          let w = written (held text one) in
          adds_then w (10 ∷ lining text others)
          (form.whole one behind at to)
          (adds_then (10 ∷ []) (lining text others) line a));
    }

pub returns : goal.returns
returns c =
    let same = sym (c.loop-p.invariant.memory ∙ c.bytes.ensures.memory ∙ c.head.ensures.writes.memory) in
    subst (λ o. (t : Tree) → c.args.m.now.nodes.now ≡ flat t → (c.loop-p.w.n ≡ length (printed (held c.args.m.now.text.now t))) × (o ≡ over c.args.out.now (printed (held c.args.m.now.text.now t)))) (sym (search (rules, same))) all
  where
    all : (u : Tree) → c.args.m.now.nodes.now ≡ flat u → (c.loop-p.w.n ≡ length (printed (held c.args.m.now.text.now u))) × (c.loop-p.w.out.now ≡ over c.args.out.now (printed (held c.args.m.now.text.now u)))
    all (node k f) e =
        let nodes = c.args.m.now.nodes.now in
        let text = c.args.m.now.text.now in
        let n = c.loop-p.w.n in
        let inv = c.loop-p.invariant in
        let start = c.head.ensures.writes.adds (omega arith) in
        let size = c.head.ensures.small in
        let root : (node_at nodes 0).size ≡ length nodes = ap (λ m. m.size) (here nodes 0 _ (flats f) e) ∙ sym (ap length e) in
        let over : length nodes ≤ c.loop-p.p-iterator.at = omega (arith, inv.last, none_left _ _ c.in-None.ensures.steps) in
        let lined = over_all nodes (length nodes) (lining text) (lining text f) c.bytes.new.self.out.now c.bytes.new.self.n (inv.gives k f e) over c.loop-p.w.out.now n (adds_none c.loop-p.w.out.now n inv.fits) in
        let whole : Puts (printed (held text (node k f))) c.args.out.now c.loop-p.w.out.now n =
        puts_then (40 ∷ head (said text k)) (41 ∷ 10 ∷ lining text f)
        (subst (λ m. Puts (40 ∷ head (saying m (bytes_at text m.text))) c.args.out.now c.head.new.self.out.now c.head.new.self.n) (here nodes 0 _ (flats f) e) (puts_from _ start))
        (adds_then (41 ∷ 10 ∷ []) (lining text f) (c.bytes.ensures.adds (omega (arith, start.count))) lined) in
        (few_all (length nodes) (max 1 (min c.loop-p.p-iterator.at (length nodes))) n (length (printed (held text (node k f)))) (omega (arith, size, root)) (omega arith) inv.few whole.count, whole.holds)
