use Rattle.std.proofs.Common.{◌≡◌, ◌^◌, ◌<◌, ◌≤◌, [], ◌∷◌, ◌++◌, length, decimal, ap, subst, arith, rules}
use Rattle.tables.specs.Modules.{node_at, bytes_at}
use Rattle.grammar.specs.Forms.{label, head}
use Rattle.grammar.specs.Labels.{label_of}
use Rattle.grammar.specs.Words.{word_of}
use Rattle.printer.specs.Held.{saying}
use Rattle.printer.specs.Output.{Writes}
use Rattle.printer.proofs.Adding.{writes_then}
use Rattle.printer.proofs.Bounds.{bytes-few, head_few}
use Rattle.printer.proofs.pieces.Output.head.Goals as goal

-- as the node and its name were read
said : (c : goal.After-label) → Writes (40 ∷ head (saying c.node-node.result c.name.result.now)) c.args.self.now c.label.new.self
said c =
    let n = c.node-node.result in
    let l = label (label_of n.kind) (saying n c.name.result.now) in
    let lo = 32 ∷ decimal n.span.lo in
    let hi = 32 ∷ decimal n.span.hi in
    let word : Writes (word_of n.kind) c.bytes.new.self c.bytes-2.new.self = subst (λ w. Writes w c.bytes.new.self c.bytes-2.new.self) c.kind_word.ensures c.bytes-2.ensures in
    writes_then (40 ∷ []) (word_of n.kind ++ (lo ++ (hi ++ l))) c.bytes.ensures
    (writes_then (word_of n.kind) (lo ++ (hi ++ l)) word
    (writes_then lo (hi ++ l) c.number.ensures
    (writes_then hi l c.number-2.ensures c.label.ensures)))

pub returns-clause-writes : goal.returns-clause-writes
returns-clause-writes c =
    let n = c.node-node.result in
    let text = c.args.m.now.text.now in
    let at = node_at c.args.m.now.nodes.now c.args.at in
    subst (λ k. Writes (40 ∷ head (saying k (bytes_at text at.text))) c.args.self.now c.label.new.self) c.node-node.ensures
    (subst (λ name. Writes (40 ∷ head (saying n name)) c.args.self.now c.label.new.self) c.name.ensures (said c))

pub returns-clause-few : goal.returns-clause-few
returns-clause-few c =
    let n = c.node-node.result in
    let at = node_at c.args.m.now.nodes.now c.args.at in
    let place = c.node-node.type_inv.1.1.1.1.1.1.0 in
    let span = c.node-node.type_inv.1.1.1.1.1.1.1.1.0 in
    let scope : n.scope < 2 ^ 32 = search rules in
    let number : n.number < 2 ^ 32 = search rules in
    let len : n.text.len < 2 ^ 16 = search rules in
    let lo : n.span.lo < 2 ^ 32 = search rules in
    let hi : n.span.hi < 2 ^ 32 = search rules in
    let same : n.text.len ≡ at.text.len = ap (λ k. k.text.len) c.node-node.ensures in
    let long : length c.name.result.now ≤ 65535 = omega (arith, ap length c.name.ensures, bytes-few c.args.m.now.text.now at.text) in
    omega (arith, ap (λ k. length (head (saying k (bytes_at c.args.m.now.text.now at.text)))) c.node-node.ensures, ap (λ name. length (head (saying n name))) c.name.ensures, head_few (saying n c.name.result.now) long scope number lo hi)
