use Rattle.std.proofs.Common.{◌≡◌, ◌+◌, ◌-◌, ◌*◌, ◌^◌, ◌<◌, ◌≤◌, min, max, List, ◌++◌, length, drop}
use Rattle.tables.specs.declared.node.Node.{Node}
use Rattle.walk.specs.Trees.{Label, node, Forest, flat}
use Rattle.printer.proofs.Rows.{Left, closing}
use Rattle.printer.proofs.+form.Given as goal

-- a part has fewer nodes than its form
abbrev pub decreases-forms::put_form : goal.decreases-forms::put_form
decreases-forms::put_form l = 3 * (l.end - l.at)

abbrev pub decreases-pieces::Output::form-put : goal.decreases-pieces::Output::form-put
decreases-pieces::Output::form-put l = 3 * (l.end - l.at) + 1

abbrev pub decreases-pieces::Output::form : goal.decreases-pieces::Output::form
decreases-pieces::Output::form l = 3 * (l.end - l.at) + 2

abbrev pub invariant-forms::put_form-loop-p : goal.invariant-forms::put_form-loop-p
invariant-forms::put_form-loop-p l =
    record {
      table : l.p-iterator.nodes.now ≡ l.m.nodes.now;
      last : l.p-iterator.end ≡ l.end;
      inside : l.p-iterator.at < l.end → l.at < l.p-iterator.at;
      fits : l.w.n < 2 ^ 64;
      few : l.w.n + 2 ≤ 131106 * max 1 (min l.p-iterator.at l.end - l.at);
      memory : l.w.out.ghost_name ≡ l.initial.w.out.ghost_name;
      gives : (k : Label) (c : Forest) (rest : List Node) → drop l.at l.m.nodes.now ≡ flat (node k c) ++ rest → l.end ≡ l.at + length (flat (node k c))
          → Left l.m.nodes.now l.end (closing l.m.text.now) (closing l.m.text.now c) l.initial.w.out.now l.initial.w.n l.p-iterator.at l.w.out.now l.w.n;
    }
