use Rattle.std.proofs.Common.{◌≡◌, take}
use Rattle.dep_graph.specs.Nodes.{has}
use Rattle.dep_graph.specs.declared.node.Node.{Node}
use Rattle.kept_values.proofs.cycles.set_of.Given as goal

-- the nodes so far are in the set
abbrev pub invariant-nodes : goal.invariant-nodes
invariant-nodes l = (a : Node) → has a l.set.keys ≡ has a (take l.node-index l.nodes)
