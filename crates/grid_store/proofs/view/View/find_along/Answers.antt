-- The cells on the lines are those of the rows.
use Rattle.std.proofs.Common.{arith}
use Rattle.grid_store.proofs.Listings.{rows_found}
use Rattle.grid_store.proofs.view.View.find_along.Goals as goal

pub returns-clause-rows : goal.returns-clause-rows
returns-clause-rows _ c =
    let g = c.args.self.now in
    rows_found g.rows.now g.cols.now g.cells.now.entries c.args.area c.args.lines c.loop-row.found c.requires.lines
    (λ k q some at there low high. c.loop-row.invariant.lines k q some at there low (omega (arith, high, c.loop-row-test.false)))
