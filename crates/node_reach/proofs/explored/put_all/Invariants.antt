use Rattle.std.proofs.Common.{take}
use Rattle.node_reach.specs.internal.Explored.{AreAt, ArePut}
use Rattle.node_reach.proofs.explored.put_all.Given as goal

-- the nodes gone by are put
abbrev pub invariant-nodes : goal.invariant-nodes
invariant-nodes l = record { put : ArePut l.initial.set.keys (take l.node-index l.nodes) l.set.keys; places : AreAt l.set.keys (take l.node-index l.nodes) l.places.items }
