use Rattle.std.proofs.Common.{◌≡◌, take}
use Rattle.cell_value.specs.Summary.{IsBounded, summary_of}
use Rattle.calc_terms.specs.Cells.{cells_in}
use Rattle.calc_eval.specs.Filled.{seen_cells, shown_by}
use Rattle.calc_eval.proofs.filled.filled_summary.Given as goal

-- what the block comes to where the cells gone by are filled
abbrev pub invariant-cells : goal.invariant-cells
invariant-cells l = (l.total ≡ summary_of (cells_in (shown_by (take l.cell-index (seen_cells l.cells))) l.fn.block).values) × IsBounded l.total
