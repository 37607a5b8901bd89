use Rattle.std.proofs.Common.{◌≡◌, take}
use Rattle.dep_graph.specs.Nodes.{items_of}
use Rattle.recalc_core.proofs.marks.copied_nodes.Given as goal

-- the nodes so far are in the copy
abbrev pub invariant-nodes : goal.invariant-nodes
invariant-nodes l = items_of l.copy ≡ take l.node-index l.nodes
