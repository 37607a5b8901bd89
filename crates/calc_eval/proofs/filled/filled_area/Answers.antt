use Rattle.std.proofs.Common.{◌∙◌, sym, ap, ap₂, subst, ◌-◌, ◌<◌, take}
use Rattle.cell_value.specs.Cells.{IsEmptyFrom, empty_cells, with_value}
use Rattle.calc_eval.specs.Filled.{seen_cells, shown_by}
use Rattle.calc_eval.proofs.BlockChanges.{none_in}
use Rattle.calc_eval.proofs.FilledCells.{cell_fills, cols_in, rows_in, seen_cell, seen_inside}
use Rattle.calc_eval.proofs.filled.filled_area.Goals as goal

pub cells-init : goal.cells-init
cells-init c = c.new-area.ensures ∙ ap₂ empty_cells c.extent-rows.ensures.rows c.extent-rows.ensures.cols ∙ none_in c.args.block

pub overflow_sub-cell : goal.overflow_sub-cell
overflow_sub-cell c =
    let item = c.cell-item.result in
    (cell_fills c.args.block (seen_cells c.args.cells.now) c.requires.filled c.cells.cell-index (seen_inside c.args.cells.now c.cells.cell-index c.cells-test.true) (item.0, item.1.now) (item.0, item.1.now) (seen_cell c.args.cells.now c.cells.cell-index item c.cells-test.true c.cell-item.is)).top

pub overflow_sub-cell-in-cells : goal.overflow_sub-cell-in-cells
overflow_sub-cell-in-cells c =
    let item = c.cell-item.result in
    (cell_fills c.args.block (seen_cells c.args.cells.now) c.requires.filled c.cells.cell-index (seen_inside c.args.cells.now c.cells.cell-index c.cells-test.true) (item.0, item.1.now) (item.0, item.1.now) (seen_cell c.args.cells.now c.cells.cell-index item c.cells-test.true c.cell-item.is)).left

pub push-requires-clause-row : goal.push-requires-clause-row
push-requires-clause-row c =
    let item = c.cell-item.result in
    subst (λ n. item.0.row - c.args.block.top < n) (sym (ap (λ a. a.rows) c.cells.invariant ∙ rows_in (shown_by (take c.cells.cell-index (seen_cells c.args.cells.now))) c.args.block))
    (cell_fills c.args.block (seen_cells c.args.cells.now) c.requires.filled c.cells.cell-index (seen_inside c.args.cells.now c.cells.cell-index c.cells-test.true) (item.0, item.1.now) (item.0, item.1.now) (seen_cell c.args.cells.now c.cells.cell-index item c.cells-test.true c.cell-item.is)).row

pub push-requires-clause-col : goal.push-requires-clause-col
push-requires-clause-col c =
    let item = c.cell-item.result in
    subst (λ n. item.0.col - c.args.block.left < n) (sym (ap (λ a. a.cols) c.cells.invariant ∙ cols_in (shown_by (take c.cells.cell-index (seen_cells c.args.cells.now))) c.args.block))
    (cell_fills c.args.block (seen_cells c.args.cells.now) c.requires.filled c.cells.cell-index (seen_inside c.args.cells.now c.cells.cell-index c.cells-test.true) (item.0, item.1.now) (item.0, item.1.now) (seen_cell c.args.cells.now c.cells.cell-index item c.cells-test.true c.cell-item.is)).col

pub push-requires-clause-next : goal.push-requires-clause-next
push-requires-clause-next c =
    let item = c.cell-item.result in
    subst (λ a. IsEmptyFrom a (item.0.row - c.args.block.top) (item.0.col - c.args.block.left)) (sym c.cells.invariant)
    (cell_fills c.args.block (seen_cells c.args.cells.now) c.requires.filled c.cells.cell-index (seen_inside c.args.cells.now c.cells.cell-index c.cells-test.true) (item.0, item.1.now) (item.0, item.1.now) (seen_cell c.args.cells.now c.cells.cell-index item c.cells-test.true c.cell-item.is)).empty

pub cells-preserved : goal.cells-preserved
cells-preserved c =
    let item = c.cell-item.result in
    let fills = cell_fills c.args.block (seen_cells c.args.cells.now) c.requires.filled c.cells.cell-index (seen_inside c.args.cells.now c.cells.cell-index c.cells-test.true) (item.0, item.1.now) (item.0, item.1.now) (seen_cell c.args.cells.now c.cells.cell-index item c.cells-test.true c.cell-item.is) in
    c.in_ok-push.ensures.ok
    ∙ ap₂ (λ a v. with_value a (item.0.row - c.args.block.top) (item.0.col - c.args.block.left) v) c.cells.invariant c.in_ok-value.ensures
    ∙ fills.filled
