-- Past the sheet's last column no cell stands, so all of the block's are found.
use Rattle.std.proofs.Common.{◌<◌, arith}
use Rattle.stable_lines.specs.Sheets.{table_of}
use Rattle.grid_store.proofs.Listings.{stands_before}
use Rattle.grid_store.proofs.view.View.find_in_row.Goals as goal

pub returns-in_default-clause-line : goal.returns-in_default-clause-line
returns-in_default-clause-line _ c = λ k q some at there low high.
    let g = c.args.self.now in
    let past : c.loop-col.col < (table_of g.cols.now c.args.area.sheet).limit → ⊥ = λ lt. cc (c.in_default.ensures.found.1 (rw c.table-table.ensures lt)) in
    c.loop-col.invariant.cols k q some (omega (arith, low, high)) at there (omega arith) (stands_before g.rows.now g.cols.now g.rows_limit g.cols_limit c.args.area.sheet c.loop-col.col past k q at)
