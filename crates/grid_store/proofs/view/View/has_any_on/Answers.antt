-- The cells on the lines are those of the rows.
use Rattle.std.proofs.Common.{inl, inr}
use Rattle.grid_store.proofs.Listings.{cases_lt, covers_sheet, rows_none}
use Rattle.grid_store.proofs.view.View.has_any_on.Goals as goal

pub returns-clause-none : goal.returns-clause-none
returns-clause-none _ c = λ _.
    let g = c.args.self.now in
    rows_none g.rows.now g.cols.now g.cells.now.entries c.args.area c.args.lines c.requires.lines
    (λ k q some at there low high.
    elim (cases_lt k.row c.loop-line.row) [
      | inl before ↦ c.loop-line.invariant.lines k q some at there low before
      | inr after ↦ c.in_default.ensures.none k some (covers_sheet g.rows.now g.cols.now c.args.area k q at there) after high
    ])
