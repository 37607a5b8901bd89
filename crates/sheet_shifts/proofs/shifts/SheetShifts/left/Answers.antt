use Rattle.sheet_shifts.specs.Met.{col_edit, other, row_edit}
use Rattle.sheet_shifts.proofs.shifts.SheetShifts.left.Goals as goal

pub returns : goal.returns
returns c =
    let lists = c.args.self.now in
    record {
      rows = c.on_sheet.ensures row_edit lists.run.items lists.listed.0 c.requires;
      cols = c.on_sheet-2.ensures col_edit lists.run.items lists.listed.1 c.requires;
      others = c.on_sheet-3.ensures other lists.run.items lists.listed.2 c.requires;
    }
