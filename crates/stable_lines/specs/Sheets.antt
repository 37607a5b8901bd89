-- The lines of each sheet of a workbook along one axis. Source: this project's own.
use Rattle.std.specs.Prelude.{ℕ, IsSome, unwrap_or}
use Rattle.std.specs.BTreeMap as tree
use Rattle.std.specs.Ordering.{nat_cmp}
use Rattle.stable_lines.specs.Lines.{AreSame}
use Rattle.stable_lines.specs.declared.sheets.SheetLines.{SheetLines}
use Rattle.stable_lines.specs.declared.table.LineTable.{LineTable}

-- the lines of a sheet; those of a sheet that was never edited are as they were first
abbrev pub table_of : SheetLines → ℕ → LineTable
table_of s sheet = unwrap_or (tree.get nat_cmp s.edited sheet) s.plain

-- a table of its own is kept for the sheet, so that it can be replaced without memory
abbrev pub HasRoom : SheetLines → ℕ → Type 0
HasRoom s sheet = IsSome (tree.get nat_cmp s.edited sheet)

-- the same lines on each sheet
abbrev pub AreUnchanged : SheetLines → SheetLines → Type 0
AreUnchanged old new = (sheet : ℕ) → AreSame (table_of new sheet) (table_of old sheet)
