use Rattle.std.proofs.Common.{◌≡◌, ◌++◌, map, take}
use Rattle.dep_graph.specs.Nodes.{items_of}
use Rattle.kept_steps.specs.internal.GivenCell.{cell_node}
use Rattle.kept_steps.proofs.nodes.add_cells.Given as goal

abbrev pub invariant-cells : goal.invariant-cells
invariant-cells l = items_of l.nodes ≡ items_of l.fn.nodes ++ map cell_node (take l.at-index l.cells)
