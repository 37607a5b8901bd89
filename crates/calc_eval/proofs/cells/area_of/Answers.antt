use Rattle.std.proofs.Common.{◌≡◌, ◌∙◌, sym, ap, subst, arith, ◌<◌}
use Rattle.cell_addr.specs.Place.{height, width}
use Rattle.cell_value.specs.Cells.{IsEmptyFrom, with_value}
use Rattle.calc_eval.proofs.BlockFilling.{all_filled, cell_filled, cells_before, filled, next_empty, row_filled, rows_before}
use Rattle.calc_eval.proofs.cells.area_of.Goals as goal

pub push-requires-clause-next : goal.push-requires-clause-next
push-requires-clause-next g c =
    subst (λ a. IsEmptyFrom a c.rows.row c.cols.col) (sym c.cols.invariant) (next_empty (g.C.ShownCells.shown c.args.cells.now) c.args.block c.rows.row c.cols.col)

pub cols-preserved : goal.cols-preserved
cols-preserved g c =
    let shown = g.C.ShownCells.shown c.args.cells.now in
    let row : c.rows.row < height c.args.block = subst (λ n. c.rows.row < n) c.extent-rows.ensures.rows c.rows-test.true in
    let col : c.cols.col < width c.args.block = subst (λ n. c.cols.col < n) c.extent-rows.ensures.cols c.cols-test.true in
    c.in_ok-push.ensures.ok
    ∙ ap (λ a. with_value a c.rows.row c.cols.col c.in_ok-value.value) c.cols.invariant
    ∙ cell_filled shown c.args.block c.rows.row c.cols.col c.in_ok-value.value row col (c.in_ok-value.ensures ∙ c.value.ensures ∙ ap shown c.place_in.ensures)

pub rows-preserved : goal.rows-preserved
rows-preserved g c =
    let shown = g.C.ShownCells.shown c.args.cells.now in
    let within = c.cols.auto.col-end in
    let past = c.cols-test.false in
    let is = c.extent-rows.ensures.cols in
    let whole : c.cols.col ≡ width c.args.block = omega arith in
    c.cols.invariant
    ∙ ap (λ k. filled shown c.args.block (cells_before shown c.args.block c.rows.row k)) whole
    ∙ row_filled shown c.args.block c.rows.row

pub returns : goal.returns
returns g c =
    let shown = g.C.ShownCells.shown c.args.cells.now in
    let within = c.rows.auto.row-end in
    let past = c.rows-test.false in
    let is = c.extent-rows.ensures.rows in
    let whole : c.rows.row ≡ height c.args.block = omega arith in
    c.rows.invariant
    ∙ ap (λ k. filled shown c.args.block (rows_before shown c.args.block k)) whole
    ∙ all_filled shown c.args.block
