-- The operation that takes another one back. Source: this project's own.
use Rattle.std.specs.Prelude.{ℕ, ◌-◌, min, Option, Some, None, option_map}
use Rattle.cell_addr.specs.declared.axis.Axis.TheVariants.{Rows, Cols}
use Rattle.cell_addr.specs.Axis.{limit_of}
use Rattle.shift_core.specs.declared.edit.Edit.{Edit}
use Rattle.shift_core.specs.declared.edit.Edit.TheVariants.{Insert, Delete, Move}
use Rattle.shift_core.specs.declared.form.Form.{Form}
use Rattle.shift_core.specs.declared.form.Form.TheVariants.{Lines, Cells, Sheet}
use Rattle.shift_core.specs.declared.shift.Shift.{Shift}
use Rattle.shift_core.specs.declared.shift.Shift.TheVariants.{InsertRows, DeleteRows, InsertCols, DeleteCols, MoveRows, MoveCols, MoveBlock, DropSheet}
use Rattle.shift_core.specs.Carried.{destination, first_place}
use Rattle.shift_core.specs.Form.{form_of, opposite}

-- the edit of a sheet's lines that takes one back: of inserted lines it deletes those that the sheet has
abbrev pub edit_back : ℕ → Edit → Edit
edit_back limit (Insert start count) = Delete start (min count (limit - start))
edit_back limit edit = opposite edit

-- moved cells are moved back; what a dropped sheet held comes back by no operation
abbrev pub form_back : Form → Option Form
form_back (Lines sheet axis edit) = Some (Lines sheet axis (edit_back (limit_of axis) edit))
form_back (Cells source to) = Some (Cells (destination source to) (first_place source))
form_back (Sheet sheet) = None

-- the operation of a form
abbrev pub shift_of : Form → Shift
shift_of (Lines sheet Rows (Insert start count)) = InsertRows sheet start count
shift_of (Lines sheet Rows (Delete start count)) = DeleteRows sheet start count
shift_of (Lines sheet Rows (Move start count before)) = MoveRows sheet start count before
shift_of (Lines sheet Cols (Insert start count)) = InsertCols sheet start count
shift_of (Lines sheet Cols (Delete start count)) = DeleteCols sheet start count
shift_of (Lines sheet Cols (Move start count before)) = MoveCols sheet start count before
shift_of (Cells source to) = MoveBlock source to
shift_of (Sheet sheet) = DropSheet sheet

-- the operation that takes this one back; none where a sheet was dropped
abbrev pub opposite_of : Shift → Option Shift
opposite_of s = option_map shift_of (form_back (form_of s))
