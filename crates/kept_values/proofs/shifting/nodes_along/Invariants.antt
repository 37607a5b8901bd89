use Rattle.std.proofs.Common.{take, []}
use Rattle.kept_values.specs.internal.TakenAlong.{AddsTaken}
use Rattle.kept_values.proofs.shifting.nodes_along.Given as goal

-- the nodes so far were taken along
abbrev pub invariant-nodes : goal.invariant-nodes
invariant-nodes l = AddsTaken l.s (take l.node-index l.nodes) [] l.along.keys
