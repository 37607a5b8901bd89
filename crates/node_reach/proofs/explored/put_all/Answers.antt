use Rattle.std.proofs.Common.{refl}
use Rattle.node_reach.proofs.Putting.{all_at, all_put, more_placed, none_put, start_at}
use Rattle.node_reach.proofs.explored.put_all.Goals as goal

pub nodes-init : goal.nodes-init
nodes-init c = record { put = none_put c.args.set.now.keys; places = start_at c.args.set.now.keys c.args.nodes.now c.in_ok-places.places.items c.in_ok-places.ensures.items }

pub nodes-preserved : goal.nodes-preserved
nodes-preserved c =
    let both = more_placed c.args.set.now.keys c.args.nodes.now c.nodes.set.keys c.nodes.places.items c.nodes.node-index _ _ c.in_ok-place.place _ c.nodes.invariant.put c.nodes.invariant.places c.nodes-test.true refl c.in_ok-place.ensures c.in_ok-push.ensures.items in
    record { put = both.0; places = both.1 }

pub returns-clause-put : goal.returns-clause-put
returns-clause-put c = all_put c.args.set.now.keys c.args.nodes.now c.nodes.set.keys c.nodes.node-index c.nodes.invariant.put c.nodes-test.false

pub returns-clause-places : goal.returns-clause-places
returns-clause-places c = all_at c.nodes.set.keys c.args.nodes.now c.nodes.places.items c.nodes.node-index c.nodes.invariant.places c.nodes-test.false
