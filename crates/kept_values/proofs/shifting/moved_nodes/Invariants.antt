use Rattle.std.proofs.Common.{take}
use Rattle.dep_graph.specs.Nodes.{has}
use Rattle.kept_values.specs.internal.TakenAlong.{AreMoved}
use Rattle.kept_values.proofs.shifting.moved_nodes.Given as goal

-- the nodes so far are there
abbrev pub invariant-nodes : goal.invariant-nodes
invariant-nodes l = AreMoved l.s (λ a. has a (take l.node-index l.nodes)) (λ a. has a l.moved.keys)
