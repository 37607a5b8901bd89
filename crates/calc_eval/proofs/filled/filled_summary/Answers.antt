use Rattle.std.proofs.Common.{◌∙◌, ap, take}
use Rattle.cell_value.specs.Summary.{joined, summary_of}
use Rattle.calc_terms.specs.Cells.{cells_in}
use Rattle.calc_eval.specs.Filled.{seen_cells, shown_by}
use Rattle.calc_eval.proofs.FilledCells.{cell_fills, nothing_yet, seen_cell, seen_inside}
use Rattle.calc_eval.proofs.filled.filled_summary.Goals as goal

pub cells-init : goal.cells-init
cells-init c = (c.new-total.ensures.none ∙ nothing_yet c.args.block (seen_cells c.args.cells.now), c.new-total.ensures.bounded)

pub cells-preserved : goal.cells-preserved
cells-preserved c =
    let cells = c.args.cells.now in
    let i = c.cells.cell-index in
    let item = c.cell-item.result in
    let fills = cell_fills c.args.block (seen_cells cells) c.requires.filled i (seen_inside cells i c.cells-test.true) (item.0, item.1.now) (item.0, item.1.now) (seen_cell cells i item c.cells-test.true c.cell-item.is) in (
      c.in_ok-total.ensures.joined ∙ ap (λ s. joined s c.of.result) c.cells.invariant.0
          ∙ ap (joined (summary_of (cells_in (shown_by (take i (seen_cells cells))) c.args.block).values)) c.of.ensures.alone ∙ fills.sums,
      c.in_ok-total.ensures.bounded,
    )
