use Rattle.std.proofs.Common.{◌≡◌, take}
use Rattle.calc_terms.specs.Cells.{cells_in}
use Rattle.calc_eval.specs.Filled.{seen_cells, shown_by}
use Rattle.calc_eval.proofs.filled.filled_area.Given as goal

-- the cells gone by are filled
abbrev pub invariant-cells : goal.invariant-cells
invariant-cells l = l.area ≡ cells_in (shown_by (take l.cell-index (seen_cells l.cells))) l.block
