use Rattle.node_links.specs.Redirect.{few_target}
use Rattle.node_links.proofs.Redirecting.{targets_next}
use Rattle.node_links.proofs.few.push_targets.Goals as goal

pub nodes-preserved : goal.nodes-preserved
nodes-preserved c = targets_next (few_target c.args.few.now) c.args.nodes.now c.nodes.node-index c.args.list.now.items c.nodes.list.items c.push_some.new.list.items c.few_target.result c.nodes-test.true c.nodes.invariant c.few_target.ensures c.in_ok-push_some.ensures
