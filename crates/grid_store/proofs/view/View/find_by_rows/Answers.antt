use Rattle.std.proofs.Common.{◌<◌, arith}
use Rattle.stable_lines.specs.Sheets.{table_of}
use Rattle.grid_store.proofs.Listings.{seen_below}
use Rattle.grid_store.proofs.view.View.find_by_rows.Goals as goal

pub returns-in_default-clause-rows : goal.returns-in_default-clause-rows
returns-in_default-clause-rows _ c = λ q there some low high.
    let g = c.args.self.now in
    let past : c.loop-row.row < (table_of g.rows.now c.args.area.sheet).limit → ⊥ = λ lt. cc (c.in_default.ensures.found.1 (rw c.table-table.ensures lt)) in
    c.loop-row.invariant.rows q there some low (seen_below g.rows.now g.cols.now g.cells.now.entries g.rows_limit g.cols_limit c.args.area.sheet c.loop-row.row past q some)

pub find_on-requires-clause-sum : goal.find_on-requires-clause-sum
find_on-requires-clause-sum _ c = omega (arith, c.in-Some.ensures.sum)
