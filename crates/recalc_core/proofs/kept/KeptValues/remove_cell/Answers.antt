use Rattle.std.proofs.Common.{◌∙◌, sym}
use Rattle.std.specs.HashMap as hash
use Rattle.grid_store.specs.Grid.{cells_of}
use Rattle.dep_graph.specs.Nodes.{same_node}
use Rattle.recalc_core.proofs.Held.{cell_removed}
use Rattle.recalc_core.proofs.kept.KeptValues.remove_cell.Goals as goal

pub returns-then-is_inside : goal.returns-then-is_inside
returns-then-is_inside c =
    let self = c.args.self.now in
    cell_removed (cells_of self.cells) (cells_of c.take.new.self) (hash.get same_node self.beyond) (hash.get same_node self.names) c.args.at
    (sym c.is_inside.ensures ∙ c.if-is_inside.true) c.take.ensures.taken
