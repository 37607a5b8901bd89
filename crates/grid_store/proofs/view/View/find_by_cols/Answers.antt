use Rattle.std.proofs.Common.{◌<◌, arith}
use Rattle.stable_lines.specs.Sheets.{table_of}
use Rattle.grid_store.proofs.ColumnKeys.{seen_before}
use Rattle.grid_store.proofs.view.View.find_by_cols.Goals as goal

pub returns-in_default-clause-rows : goal.returns-in_default-clause-rows
returns-in_default-clause-rows _ c = λ q there some low high.
    let g = c.args.self.now in
    let past : c.loop-col.col < (table_of g.cols.now c.args.area.sheet).limit → ⊥ = λ lt. cc (c.in_default.ensures.found.1 (rw c.table-table.ensures lt)) in
    c.loop-col.invariant.columns q there some (omega arith) (seen_before g.rows.now g.cols.now g.cells.now.entries g.rows_limit g.cols_limit c.args.area.sheet c.loop-col.col past q some)
