use Rattle.std.proofs.Common.{◌≡◌, ◌++◌, map, take}
use Rattle.dep_graph.specs.Nodes.{items_of}
use Rattle.session_values.specs.internal.Listed.{cell_node}
use Rattle.session_values.proofs.listing.add_cells.Given as goal

-- the cells so far were added
abbrev pub invariant-cells : goal.invariant-cells
invariant-cells l = items_of l.nodes ≡ items_of l.fn.nodes ++ map cell_node (take l.at-index l.cells)
