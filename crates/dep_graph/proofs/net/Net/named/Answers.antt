use Rattle.dep_graph.specs.Nodes.{items_of}
use Rattle.dep_graph.specs.internal.Numbers.{found_at}
use Rattle.dep_graph.proofs.Listing.{found_next}
use Rattle.dep_graph.proofs.net.Net.named.Goals as goal

pub numbers-preserved : goal.numbers-preserved
numbers-preserved c =
    found_next (found_at c.args.self.now.nodes) c.args.numbers.now c.numbers.number-index c.args.unknown.now.keys (items_of c.numbers.nodes) (items_of c.push_node.new.nodes) c.numbers-test.true c.numbers.invariant c.in_ok-push_node.ensures
