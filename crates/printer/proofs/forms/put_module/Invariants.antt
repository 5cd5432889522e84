use Rattle.std.proofs.Common.{◌≡◌, ◌*◌, ◌^◌, ◌<◌, ◌≤◌, min, max}
use Rattle.walk.specs.Trees.{Label, node, Forest, flat}
use Rattle.printer.proofs.Rows.{Left, lining}
use Rattle.printer.proofs.forms.put_module.Given as goal

abbrev pub invariant-loop-p : goal.invariant-loop-p
invariant-loop-p l =
    record {
      table : l.p-iterator.nodes.now ≡ l.m.nodes.now;
      last : l.p-iterator.end ≡ l.end;
      inside : 0 < l.p-iterator.at;
      fits : l.w.n < 2 ^ 64;
      few : l.w.n ≤ 131106 * max 1 (min l.p-iterator.at l.end);
      memory : l.w.out.ghost_name ≡ l.initial.w.out.ghost_name;
      gives : (k : Label) (c : Forest) → l.m.nodes.now ≡ flat (node k c) → Left l.m.nodes.now l.end (lining l.m.text.now) (lining l.m.text.now c) l.initial.w.out.now l.initial.w.n l.p-iterator.at l.w.out.now l.w.n;
    }
