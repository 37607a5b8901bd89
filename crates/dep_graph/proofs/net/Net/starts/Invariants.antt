use Rattle.std.proofs.Common.{◌≡◌, take}
use Rattle.std.specs.List.{flat_map}
use Rattle.dep_graph.specs.internal.Arrows.{starts_of}
use Rattle.dep_graph.proofs.net.Net.starts.Given as goal

-- the starts of the nodes gone by
abbrev pub invariant-nodes : goal.invariant-nodes
invariant-nodes l = l.starts.items ≡ flat_map (starts_of l.self) (take l.node-index l.nodes)
