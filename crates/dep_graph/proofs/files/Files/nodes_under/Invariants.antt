use Rattle.std.proofs.Common.{◌≡◌, take}
use Rattle.std.specs.List.{filter_map}
use Rattle.dep_graph.specs.internal.Files.{owner_of}
use Rattle.dep_graph.proofs.files.Files.nodes_under.Given as goal

-- the owners of the filings gone by
abbrev pub invariant-filed : goal.invariant-filed
invariant-filed l = l.nodes.items ≡ filter_map (owner_of l.self) (take l.filing-index l.filing-items)
