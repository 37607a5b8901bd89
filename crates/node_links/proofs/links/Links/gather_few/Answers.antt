use Rattle.std.proofs.Common.{◌∙◌, ◌++◌, ap, subst, filter_map, option_map}
use Rattle.node_links.specs.Nodes.{needs_of, node_count}
use Rattle.node_links.specs.Redirect.{few_target}
use Rattle.node_links.specs.internal.Few.{list_at}
use Rattle.node_links.proofs.Around.{AreGatheredUpTo, gathered_first, gathered_last, gathered_next}
use Rattle.node_links.proofs.links.Links.gather_few.Goals as goal

pub few-init : goal.few-init
few-init c = gathered_first c.args.few.now (needs_of c.args.self.now) (node_count c.args.self.now) c.args.lists.now c.into_iter-node-iterator.result c.requires.own c.requires.rows
    c.into_iter-node-iterator.ensures.into_iter_gives.0 c.into_iter-node-iterator.ensures.into_iter_gives.6

pub few-preserved : goal.few-preserved
few-preserved c =
    let few = c.args.few.now in
    let needs = needs_of c.args.self.now in
    let count = node_count c.args.self.now in
    gathered_next few needs count c.args.lists.now c.few.lists c.gather.new.lists (c.in-Some.node.now, c.in-Some.target.now) c.next.new.self
    (subst (λ r. AreGatheredUpTo few needs count c.args.lists.now c.few.lists r) c.in-Some.ensures.steps c.few.invariant)
    (λ t is. c.in_ok-gather.ensures.ok t is ∙ ap (λ l. option_map (λ list. list ++ filter_map (few_target few) l) (list_at c.few.lists t)) c.needs.ensures)
    c.in_ok-gather.ensures.rest

pub returns-clause-gathered : goal.returns-clause-gathered
returns-clause-gathered c =
    let few = c.args.few.now in
    let needs = needs_of c.args.self.now in
    let count = node_count c.args.self.now in
    gathered_last few needs count c.args.lists.now c.few.lists (subst (λ r. AreGatheredUpTo few needs count c.args.lists.now c.few.lists r) c.in-None.ensures.steps.0 c.few.invariant)
