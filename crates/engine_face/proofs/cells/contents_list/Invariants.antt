use Rattle.std.proofs.Common.{◌≡◌, ◌++◌, length}
use Rattle.engine_face.specs.Lists.{as_texts, cell_rows, cell_texts}
use Rattle.engine_face.proofs.cells.contents_list.Given as goal

abbrev pub invariant-cells : goal.invariant-cells
invariant-cells l = record {
  rows : l.rows.items ++ cell_rows (length l.texts.items) (as_texts l.rest) ≡ cell_rows 0 (as_texts l.cells);
  texts : l.texts.items ++ cell_texts (as_texts l.rest) ≡ cell_texts (as_texts l.cells);
}

abbrev pub decreases-cells : goal.decreases-cells
decreases-cells l = length l.rest
