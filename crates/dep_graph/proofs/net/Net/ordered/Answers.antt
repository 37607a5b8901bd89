use Rattle.std.proofs.Common.{arith}
use Rattle.dep_graph.specs.Nodes.{items_of}
use Rattle.dep_graph.specs.internal.Numbers.{found_at}
use Rattle.dep_graph.proofs.Listing.{ordered_next}
use Rattle.dep_graph.proofs.net.Net.ordered.Goals as goal

pub walk-preserved : goal.walk-preserved
walk-preserved c = record {
  left = omega (arith, c.walk.invariant.left);
  found = ordered_next (found_at c.args.self.now.nodes) c.args.known.now.keys c.args.walk.now.nodes.items c.args.walk.now.on_cycle.items c.walk.left c.args.unknown.now.keys (items_of c.walk.nodes) (items_of c.push_walked.new.nodes)
      c.walk-test.true c.walk.invariant.left c.requires.marks c.walk.invariant.found c.in_ok-push_walked.ensures;
}
