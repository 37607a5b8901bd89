use Rattle.std.proofs.Common.{subst}
use Rattle.node_links.specs.Nodes.{needs_of, node_count}
use Rattle.node_links.proofs.Around.{AreMarkedUpTo, marked_first, marked_last, marked_next}
use Rattle.node_links.proofs.links.Links.marked_few.Goals as goal

pub few-init : goal.few-init
few-init c = marked_first c.args.few.now (needs_of c.args.self.now) (node_count c.args.self.now) c.new-lists.result c.into_iter-node-iterator.result c.new-lists.ensures.empty
    c.into_iter-node-iterator.ensures.into_iter_gives.0 c.into_iter-node-iterator.ensures.into_iter_gives.6

pub few-preserved : goal.few-preserved
few-preserved c =
    let few = c.args.few.now in
    let needs = needs_of c.args.self.now in
    let count = node_count c.args.self.now in
    marked_next few needs count c.few.lists c.mark_around.new.lists (c.in-Some.node.now, c.in-Some.field-0-1.now) c.next.new.self
    (subst (λ r. AreMarkedUpTo few needs count c.few.lists r) c.in-Some.ensures.steps c.few.invariant)
    c.in_ok-mark_around.ensures.own c.in_ok-mark_around.ensures.rows c.in_ok-mark_around.ensures.still c.in_ok-mark_around.ensures.around

pub returns-clause-around : goal.returns-clause-around
returns-clause-around c =
    let few = c.args.few.now in
    let needs = needs_of c.args.self.now in
    let count = node_count c.args.self.now in
    marked_last few needs count c.few.lists (subst (λ r. AreMarkedUpTo few needs count c.few.lists r) c.in-None.ensures.steps.0 c.few.invariant)
