use Rattle.std.proofs.Common.{◌≡◌, ◌&&◌, take}
use Rattle.dep_graph.specs.Nodes.{has, items_of}
use Rattle.dep_graph.specs.declared.node.Node.{Node}
use Rattle.session_values.specs.internal.Listed.{is_name_of}
use Rattle.session_values.proofs.listing.named.Given as goal

-- of the nodes so far the names of the sheet were added
abbrev pub invariant-nodes : goal.invariant-nodes
invariant-nodes l = (a : Node) → has a (items_of l.names) ≡ (is_name_of l.sheet a && has a (take l.node-index l.nodes))
