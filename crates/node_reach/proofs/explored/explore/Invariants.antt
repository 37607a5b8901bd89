use Rattle.std.proofs.Common.{◌-◌, length}
use Rattle.needs_order.specs.Needs.{lists_of}
use Rattle.node_reach.specs.internal.Explored.{IsUnderWay}
use Rattle.node_reach.proofs.explored.explore.Given as goal

-- the arrows of the nodes gone by were followed
abbrev pub invariant-exploring : goal.invariant-exploring
invariant-exploring g l = IsUnderWay (g.A.Arrows.count l.graph) (g.A.Arrows.targets l.graph) l.starts l.found.nodes.keys (lists_of l.found.lists.items)

abbrev pub decreases-exploring : goal.decreases-exploring
decreases-exploring g l = g.A.Arrows.count l.graph - length (lists_of l.found.lists.items)
