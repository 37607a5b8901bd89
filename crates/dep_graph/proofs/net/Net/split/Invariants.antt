use Rattle.std.proofs.Common.{take}
use Rattle.dep_graph.specs.internal.Walked.{AreKnown, AreUnknown}
use Rattle.dep_graph.proofs.net.Net.split.Given as goal

-- the nodes gone by are split
abbrev pub invariant-nodes : goal.invariant-nodes
invariant-nodes l = record {
  unknown : AreUnknown l.self (take l.node-index l.nodes) l.split.unknown.keys;
  known : AreKnown l.self (take l.node-index l.nodes) l.split.known.keys;
}
