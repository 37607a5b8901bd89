-- What a structural operation does on a sheet; what is on another one it leaves alone. Source: this project's own.
use Rattle.std.specs.Prelude.{ℕ, Bool, false, ◌==◌, ◌&&◌, ◌||◌, if◌then◌else◌, Option, Some, None}
use Rattle.cell_addr.specs.Axis.{same_axis}
use Rattle.cell_addr.specs.declared.axis.Axis.{Axis}
use Rattle.cell_addr.specs.declared.axis.Axis.TheVariants.{Rows, Cols}
use Rattle.shift_core.specs.Form.{form_of}
use Rattle.shift_core.specs.declared.edit.Edit.{Edit}
use Rattle.shift_core.specs.declared.form.Form.{Form}
use Rattle.shift_core.specs.declared.form.Form.TheVariants.{Lines, Cells, Sheet}
use Rattle.shift_core.specs.declared.shift.Shift.{Shift}

-- the edit of the sheet's lines along the axis, if the operation is one
abbrev pub edit_in : ℕ → Axis → Form → Option Edit
edit_in sheet axis (Lines edited along edit) = if sheet == edited && same_axis along axis then Some edit else None
edit_in sheet axis _ = None

-- the operation moves cells from or to the sheet, or drops it
abbrev pub meets : ℕ → Form → Bool
meets sheet (Cells source to) = source.sheet == sheet || to.sheet == sheet
meets sheet (Sheet dropped) = sheet == dropped
meets sheet _ = false

-- the edit of the sheet's rows, of its columns, and any other operation that meets the sheet
abbrev pub row_edit : ℕ → Shift → Option Edit
row_edit sheet s = edit_in sheet Rows (form_of s)

abbrev pub col_edit : ℕ → Shift → Option Edit
col_edit sheet s = edit_in sheet Cols (form_of s)

abbrev pub other : ℕ → Shift → Option Shift
other sheet s = if meets sheet (form_of s) then Some s else None
