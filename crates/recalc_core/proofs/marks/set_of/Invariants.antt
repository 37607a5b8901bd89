use Rattle.std.proofs.Common.{◌≡◌, take}
use Rattle.std.specs.HashSet as hash
use Rattle.dep_graph.specs.Nodes.{has, same_node}
use Rattle.dep_graph.specs.declared.node.Node.{Node}
use Rattle.recalc_core.proofs.marks.set_of.Given as goal

-- the set of the nodes so far
abbrev pub invariant-nodes : goal.invariant-nodes
invariant-nodes l = (a : Node) → hash.contains same_node l.set a ≡ has a (take l.node-index l.nodes)
