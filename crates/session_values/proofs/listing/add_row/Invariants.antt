use Rattle.dep_graph.specs.Nodes.{items_of}
use Rattle.session_values.specs.internal.Listed.{AreAdded, is_node_before}
use Rattle.session_values.proofs.listing.add_row.Given as goal

-- the places left of the column were added
abbrev pub invariant-cols : goal.invariant-cols
invariant-cols l = AreAdded (is_node_before l.area l.row l.col) (items_of l.fn.nodes) (items_of l.nodes)
