-- The first key of the rows' range is on the first line of them that holds a cell.
use Rattle.grid_store.proofs.Listings.{first_row, no_row}
use Rattle.grid_store.proofs.view.View.filled_line.Goals as goal

pub returns-in-Some-clause-within : goal.returns-in-Some-clause-within
returns-in-Some-clause-within _ c =
    let found = first_row c.by_rows.result.now c.args.sheet c.args.row c.args.end (c.in-Some.key.now, c.in-Some._cell.now) c.next.new.self c.range.result c.in-Some.ensures.steps (c.range.ensures.in_range tt) in (found.0, found.1)

pub returns-in-Some-clause-before : goal.returns-in-Some-clause-before
returns-in-Some-clause-before _ c =
    rw (← c.by_rows.ensures) ((first_row c.by_rows.result.now c.args.sheet c.args.row c.args.end (c.in-Some.key.now, c.in-Some._cell.now) c.next.new.self c.range.result c.in-Some.ensures.steps (c.range.ensures.in_range tt)).2)

pub returns-in-None-clause-none : goal.returns-in-None-clause-none
returns-in-None-clause-none _ c = rw (← c.by_rows.ensures) (no_row c.by_rows.result.now c.args.sheet c.args.row c.args.end c.range.result c.in-None.ensures.steps.0 (c.range.ensures.in_range tt))
