use Rattle.std.proofs.Common.{◌∙◌, ap, sym, subst}
use Rattle.needs_order.specs.Needs.{has}
use Rattle.node_links.specs.Nodes.{needs_of, node_count}
use Rattle.node_links.proofs.Making.{AreMade, made_next, row_below}
use Rattle.node_links.proofs.links.Links.changes.Goals as goal

pub needs-requires : goal.needs-requires
needs-requires c =
    let count = node_count c.args.self.now in
    let needs = needs_of c.args.self.now in
    row_below count needs c.args.lists c.loop-node.changes.items (c.in-Some.node, c.in-Some.list) c.next.new.self
    (subst (λ r. AreMade count needs c.args.lists c.loop-node.changes.items r) c.in-Some.ensures.steps c.loop-node.invariant) c.requires.rows

pub loop-node-preserved : goal.loop-node-preserved
loop-node-preserved c =
    let count = node_count c.args.self.now in
    let needs = needs_of c.args.self.now in
    made_next count needs c.args.lists c.loop-node.changes.items (c.in-Some.node, c.in-Some.list) c.next.new.self
    (subst (λ r. AreMade count needs c.args.lists c.loop-node.changes.items r) c.in-Some.ensures.steps c.loop-node.invariant)
    c.push.new.self.items c.in_ok-new.field-0 c.in_ok-push.ensures.items c.in_ok-new.ensures.node c.in_ok-new.ensures.needs c.requires.rows c.requires.below
    (λ x. c.in_ok-new.ensures.now x ∙ ap (λ l. has x l.items) (sym c.in_ok-new.ensures.needs))
    (λ x. c.in_ok-new.ensures.was x ∙ (ap (has x) c.needs.ensures ∙ ap (λ a. has x (needs a)) (sym c.in_ok-new.ensures.node)))
