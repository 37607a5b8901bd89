-- The lines of a sheet along one axis, put in place of those that it had.
use Rattle.std.specs.Prelude.{◌≡◌, ℕ, false, Option, ◌==◌}
use Rattle.cell_addr.specs.declared.axis.Axis.{Axis}
use Rattle.cell_addr.specs.declared.axis.Axis.TheVariants.{Rows, Cols}
use Rattle.cell_addr.specs.declared.place.TheConstants.{COLS, ROWS}
use Rattle.shift_core.specs.Form.{across}
use Rattle.stable_lines.specs.Lines.{AreRenewed}
use Rattle.stable_lines.specs.Sheets.{AreUnchanged, table_of}
use Rattle.stable_lines.specs.declared.sheets.SheetLines.{SheetLines}

-- the lines along an axis
abbrev pub along : Axis → SheetLines → SheetLines → SheetLines
along Rows rows cols = rows
along Cols rows cols = cols

-- the sheet's lines along the axis come by the rule, and all others are as they were
pub record IsRenewal (axis : Axis) (sheet : ℕ) (rule : ℕ → Option ℕ) (rows cols rows' cols' : SheetLines) : Type 0 where
  pub there : AreRenewed rule (table_of (along axis rows cols) sheet) (table_of (along axis rows' cols') sheet)
  pub others : (other : ℕ) → (other == sheet) ≡ false → table_of (along axis rows' cols') other ≡ table_of (along axis rows cols) other
  pub over : along (across axis) rows' cols' ≡ along (across axis) rows cols

-- the lines are renewed so, after some sheets may have been given tables of their own for the lines that they had
pub record IsRenewalOver (axis : Axis) (sheet : ℕ) (rule : ℕ → Option ℕ) (rows cols rows' cols' : SheetLines) : Type 0 where
  pub own_rows : SheetLines
  pub own_cols : SheetLines
  pub rows_kept : AreUnchanged rows own_rows
  pub cols_kept : AreUnchanged cols own_cols
  pub rows_limit : own_rows.plain.limit ≡ ROWS
  pub cols_limit : own_cols.plain.limit ≡ COLS
  pub renewal : IsRenewal axis sheet rule own_rows own_cols rows' cols'
