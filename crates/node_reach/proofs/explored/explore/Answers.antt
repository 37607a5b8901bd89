use Rattle.node_reach.proofs.Exploring.{all_found, fewer_left, found_below, more_kept, starts_kept}
use Rattle.node_reach.proofs.explored.explore.Goals as goal

pub exploring-init : goal.exploring-init
exploring-init g c =
    starts_kept (g.A.Arrows.count c.args.graph.now) (g.A.Arrows.targets c.args.graph.now) c.in_ok-found.found.nodes.keys c.args.starts.now _ _ c.in_ok-found.found.lists.items
    c.in_ok-found.ensures.nodes c.in_ok-found.ensures.lists c.requires c.in_ok-put_all.ensures.put c.in_ok-put_all.ensures.places

pub arrows-requires : goal.arrows-requires
arrows-requires g c =
    let next = c.in-Some.ensures.node in
    found_below (g.A.Arrows.count c.args.graph.now) (g.A.Arrows.targets c.args.graph.now) _ _ _ _ c.in-Some.node c.exploring.invariant next.0 next.1

pub exploring-preserved : goal.exploring-preserved
exploring-preserved g c =
    let next = c.in-Some.ensures.node in
    let told = c.in_ok-targets.ensures in
    more_kept (g.A.Arrows.count c.args.graph.now) (g.A.Arrows.targets c.args.graph.now) c.args.starts.now c.exploring.found.nodes.keys c.exploring.found.lists.items c.in-Some.node c.in_ok-targets.targets.items c.as_slice.result.now _ c.in_ok-places.places _
    c.exploring.invariant next.0 next.1 told.targets c.as_slice.ensures.value told.nodes c.in_ok-places.ensures.put c.in_ok-places.ensures.places c.in_ok-push.ensures.items

pub exploring-smaller : goal.exploring-smaller
exploring-smaller g c =
    fewer_left (g.A.Arrows.count c.args.graph.now) (g.A.Arrows.targets c.args.graph.now) c.args.starts.now c.exploring.found.nodes.keys c.exploring.found.lists.items c.in_ok-places.places _
    c.exploring.invariant c.in-Some.ensures.once c.in-Some.ensures.node.0 c.in_ok-push.ensures.items

pub returns : goal.returns
returns g c =
    all_found (g.A.Arrows.count c.args.graph.now) (g.A.Arrows.targets c.args.graph.now) _ _ _ c.exploring.invariant c.in_default.ensures.node c.in_default.ensures.once
