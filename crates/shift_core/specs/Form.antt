-- The three forms of structural operations: an edit of the lines of a sheet along one axis, a move of cells, and
-- a dropped sheet. A line is a row or a column, counted from 0. Source: this project's own.
use Rattle.std.specs.Prelude.{ℕ, ◌+◌, ◌-◌, ◌≤◌, nat_lt, if◌then◌else◌}
use Rattle.cell_addr.specs.declared.axis.Axis.TheVariants.{Rows, Cols}
use Rattle.cell_addr.specs.declared.axis.Span.{Span}
pub use Rattle.cell_addr.specs.Axis.{across}
use Rattle.shift_core.specs.declared.edit.Edit.{Edit}
use Rattle.shift_core.specs.declared.edit.Edit.TheVariants.{Insert, Delete, Move}
use Rattle.shift_core.specs.declared.form.Form.{Form}
use Rattle.shift_core.specs.declared.form.Form.TheVariants.{Lines, Cells, Sheet}
use Rattle.shift_core.specs.declared.shift.Shift.{Shift}
use Rattle.shift_core.specs.declared.shift.Shift.TheVariants.{InsertRows, DeleteRows, InsertCols, DeleteCols, MoveRows, MoveCols, MoveBlock, DropSheet}

-- the form of an operation
abbrev pub form_of : Shift → Form
form_of (InsertRows sheet start count) = Lines sheet Rows (Insert start count)
form_of (DeleteRows sheet start count) = Lines sheet Rows (Delete start count)
form_of (InsertCols sheet start count) = Lines sheet Cols (Insert start count)
form_of (DeleteCols sheet start count) = Lines sheet Cols (Delete start count)
form_of (MoveRows sheet start count before) = Lines sheet Rows (Move start count before)
form_of (MoveCols sheet start count before) = Lines sheet Cols (Move start count before)
form_of (MoveBlock source to) = Cells source to
form_of (DropSheet sheet) = Sheet sheet

-- the edit that puts the lines back: the opposite of a move takes them from where they are now
abbrev pub opposite : Edit → Edit
opposite (Insert start count) = Delete start count
opposite (Delete start count) = Insert start count
opposite (Move start count before) =
    if nat_lt (start + count) before then Move (before - count) count start
    else Move before count (start + count)

-- the line is from the first to the last, both included
abbrev pub IsWithin : Span → ℕ → Type 0
IsWithin s line = (s.first ≤ line) × (line ≤ s.last)
