use Rattle.std.proofs.Common.{sym, not}
use Rattle.std.specs.Prelude.{nat_lt}
use Rattle.std.specs.FinMap as fin
use Rattle.shift_core.specs.Carried.{destination}
use Rattle.book_model.specs.Changes.{with_copy}
use Rattle.book_model.specs.Refusals.{is_block_outside}
use Rattle.book_model.specs.Workbook.{has_sheet}
use Rattle.book_model.specs.declared.refusal.Refusal.TheVariants.{CellLimit, NoSheet, Outside}
use Rattle.kept_book.specs.Copied.{contents_copied}
use Rattle.session_operations.specs.Seen.{state_of}
use Rattle.session_operations.proofs.Pasting.{few-enough, three-none}
use Rattle.session_operations.proofs.parts.Parts.check_copied.Goals as goal

pub filled_after-requires-clause-few : goal.filled_after-requires-clause-few
filled_after-requires-clause-few c = c.requires.fits.book.count

pub returns-clause-cause : goal.returns-clause-cause
returns-clause-cause c =
    let d = state_of c.args.self.now in
    let after = with_copy c.args.area (contents_copied c.args.cells.now) c.args.at d.book in (
      three-none (not (has_sheet d.book c.args.at.sheet)) (is_block_outside (destination c.args.area c.args.at)) (nat_lt 1000000 (fin.len after.cells)) NoSheet Outside CellLimit c.in_ok-check_there.ensures
          (few-enough c.in_ok-filled_after.field-0 (fin.len after.cells) (sym c.in_ok-filled_after.ensures) c.if-branch-gt-MAX_CELLS.false),
      tt,
    )
