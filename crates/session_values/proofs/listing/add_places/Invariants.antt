use Rattle.dep_graph.specs.Nodes.{items_of}
use Rattle.session_values.specs.internal.Listed.{AreAdded, is_node_above}
use Rattle.session_values.proofs.listing.add_places.Given as goal

-- the rows above the row were added
abbrev pub invariant-rows : goal.invariant-rows
invariant-rows l = AreAdded (is_node_above l.area l.row) (items_of l.fn.nodes) (items_of l.nodes)
