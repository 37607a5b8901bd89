-- The cells on the lines are those of the rows.
use Rattle.std.proofs.Common.{inl, inr}
use Rattle.grid_store.proofs.Listings.{cases_lt, covers_sheet, rows_found}
use Rattle.grid_store.proofs.view.View.find_line_by_line.Goals as goal

pub returns-clause-rows : goal.returns-clause-rows
returns-clause-rows _ c =
    let g = c.args.self.now in
    let i = c.loop-line.invariant in
    rows_found g.rows.now g.cols.now g.cells.now.entries c.args.area c.args.lines c.loop-line.found c.requires.lines
    (λ k q some at there low high.
    elim (cases_lt k.row c.loop-line.row) [
      | inl before ↦ i.lines k q some at there low before
      | inr after ↦ absurd (c.in_default.ensures.none k some (covers_sheet g.rows.now g.cols.now c.args.area k q at there) after high)
    ])
