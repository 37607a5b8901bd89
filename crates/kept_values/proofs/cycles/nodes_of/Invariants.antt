use Rattle.std.proofs.Common.{◌≡◌, map, take}
use Rattle.dep_graph.specs.Nodes.{items_of}
use Rattle.dep_graph.specs.declared.node.Node.TheVariants.{Cell}
use Rattle.kept_values.proofs.cycles.nodes_of.Given as goal

-- the cells so far were added
abbrev pub invariant-places : goal.invariant-places
invariant-places l = items_of l.nodes ≡ map Cell (take l.place-index l.places)
