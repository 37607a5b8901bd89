use Rattle.std.proofs.Common.{◌≡◌, ◌<◌, arith, get_or, length}
use Rattle.sheet_shifts.specs.Met.{col_edit, other, row_edit}
use Rattle.sheet_shifts.proofs.Listing.{picked-next}
use Rattle.sheet_shifts.proofs.shifts.SheetShifts.of.Goals as goal

pub operations-preserved : goal.operations-preserved
operations-preserved c =
    let run = c.args.run.items in
    let i = c.operations.index in
    let s = c.index.result.now in
    let old = c.operations.lists in
    let new = c.add.new.self in
    let within : i < length run = omega (arith, c.operations-test.true, c.len-index-end.ensures) in
    let same : s ≡ get_or run i s = c.index.ensures in (
      picked-next row_edit run i s old.rows new.rows within same c.operations.invariant.0 c.in_ok-add.ensures.rows,
      picked-next col_edit run i s old.cols new.cols within same c.operations.invariant.1 c.in_ok-add.ensures.cols,
      picked-next other run i s old.others new.others within same c.operations.invariant.2 c.in_ok-add.ensures.others,
    )
