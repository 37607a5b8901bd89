use Rattle.std.proofs.Common.{◌≡◌, ◌≤◌, ◌++◌, drop, length}
use Rattle.std.specs.List.{filter_map}
use Rattle.dep_graph.specs.Nodes.{items_of}
use Rattle.dep_graph.specs.internal.Numbers.{found_at}
use Rattle.dep_graph.specs.internal.Walked.{picks}
use Rattle.dep_graph.proofs.net.Net.ordered.Given as goal

-- what is picked of the end of the walk stands behind the unknown nodes
abbrev pub invariant-walk : goal.invariant-walk
invariant-walk l = record {
  left : l.left ≤ length l.walk.nodes.items;
  found : items_of l.nodes ≡ l.unknown.keys ++ filter_map (found_at l.self.nodes) (picks l.known.keys (drop l.left l.walk.nodes.items) (drop l.left l.walk.on_cycle.items));
}

abbrev pub decreases-walk : goal.decreases-walk
decreases-walk l = l.left
