use Rattle.std.proofs.Common.{◌≡◌, ◌++◌, take}
use Rattle.std.specs.List.{filter_map}
use Rattle.dep_graph.specs.Nodes.{items_of}
use Rattle.dep_graph.specs.internal.Numbers.{found_at}
use Rattle.dep_graph.proofs.net.Net.named.Given as goal

-- the nodes of the numbers gone by stand behind the unknown ones
abbrev pub invariant-numbers : goal.invariant-numbers
invariant-numbers l = items_of l.nodes ≡ l.unknown.keys ++ filter_map (found_at l.self.nodes) (take l.number-index l.numbers)
