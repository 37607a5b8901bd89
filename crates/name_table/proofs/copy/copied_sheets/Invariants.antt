use Rattle.std.proofs.Common.{◌≡◌, ◌++◌}
use Rattle.cell_addr.specs.Sheets.{AreSheets}
use Rattle.name_table.proofs.copy.copied_sheets.Given as goal

-- the sheets gone by are in the copy
abbrev pub invariant-sheets : goal.invariant-sheets
invariant-sheets l = record { front : l.copy.entries ++ l.id-iterator ≡ l.sheets.entries; proper : AreSheets l.copy.entries }
