use Rattle.std.proofs.Common.{ap}
use Rattle.std.specs.HashMap as hash
use Rattle.std.specs.Map.{lookup}
use Rattle.grid_store.proofs.RenewedCells.{seen_inside}
use Rattle.grid_store.specs.Grid.{cells_of}
use Rattle.dep_graph.specs.Nodes.{same_node}
use Rattle.recalc_core.proofs.Held.{held_moved}
use Rattle.recalc_core.proofs.kept.KeptValues.shift.Goals as goal

pub returns-clause-ok : goal.returns-clause-ok
returns-clause-ok c =
    let self = c.args.self.now in
    let grid = self.cells in
    held_moved c.args.s.now (cells_of grid) (cells_of c.apply.new.self) (hash.get same_node self.beyond) (hash.get same_node c.clear.new.self) (hash.get same_node self.names) (hash.get same_node c.drop_names.new.names)
    c.requires (seen_inside grid.rows grid.cols grid.cells.entries grid.rows_limit grid.cols_limit) c.in_ok-apply.ensures.moved (λ a. ap (lookup (same_node a)) c.clear.ensures.empty) c.drop_names.ensures
