use Rattle.std.proofs.Common.{◌≡◌, ◌++◌, length}
use Rattle.engine_face.specs.Lists.{cell_rows, cell_texts}
use Rattle.engine_face.proofs.cells.values_list.Given as goal

abbrev pub invariant-cells : goal.invariant-cells
invariant-cells l = record {
  rows : l.rows.items ++ cell_rows (length l.texts.items) l.rest ≡ cell_rows 0 l.cells;
  texts : l.texts.items ++ cell_texts l.rest ≡ cell_texts l.cells;
}

abbrev pub decreases-cells : goal.decreases-cells
decreases-cells l = length l.rest
