use Rattle.std.proofs.Common.{◌≡◌, ◌<◌, sym, subst, arith, true}
use Rattle.needs_order.specs.Needs as plain
use Rattle.dep_graph.specs.internal.Arrows.{from_node, from_slot, node_total, total}
use Rattle.dep_graph.proofs.Listing.{all_inside}
use Rattle.dep_graph.proofs.Walking.{slot_targets_inside, targets_inside, targets_low}
use Rattle.dep_graph.proofs.arrows.NetArrows.arrows.Goals as goal

pub returns-then-node-count-clause-nodes : goal.returns-then-node-count-clause-nodes
returns-then-node-count-clause-nodes c =
    let low : c.args.node < node_total c.args.self.now = omega (arith, c.if-node-count.true, c.len-count.ensures) in
    all_inside c.from_node.result (from_node c.args.self.now c.args.node) (total c.args.self.now) c.from_node.ensures
    (λ b h. targets_inside c.args.self.now c.args.node b (subst (λ l. plain.has b l ≡ true) (sym (targets_low c.args.self.now c.args.node low)) h))

pub returns-else-node-count-clause-nodes : goal.returns-else-node-count-clause-nodes
returns-else-node-count-clause-nodes c =
    all_inside c.from_slot.result (from_slot c.args.self.now _) (total c.args.self.now) c.from_slot.ensures (slot_targets_inside c.args.self.now _)
