use Rattle.std.proofs.Common.{◌≡◌, ◌++◌, take}
use Rattle.std.specs.List.{filter_map}
use Rattle.dep_graph.specs.Nodes.{items_of}
use Rattle.kept_values.specs.internal.Linking.{node_of}
use Rattle.kept_values.proofs.linking.add_places.Given as goal

-- the nodes of the places so far were added
abbrev pub invariant-places : goal.invariant-places
invariant-places l = items_of l.needs ≡ items_of l.fn.needs ++ filter_map node_of (take l.place-index l.places)
