-- Which structural operations can be done: each fits a sheet, and isn't without effect. Source: this project's own.
use Rattle.std.specs.Prelude.{◌≢◌}
use Rattle.cell_addr.specs.Axis.{limit_of}
use Rattle.cell_addr.specs.Place.{IsBlockInside}
use Rattle.shift_core.specs.declared.form.Form.{Form}
use Rattle.shift_core.specs.declared.form.Form.TheVariants.{Lines, Cells, Sheet}
use Rattle.shift_core.specs.declared.shift.Shift.{Shift}
use Rattle.shift_core.specs.Carried.{destination}
use Rattle.shift_core.specs.Form.{form_of}
use Rattle.shift_core.specs.Lines.{IsSoundEdit}

-- a moved block of cells begins and ends on the sheet, before and after, and comes to another place
abbrev pub IsSoundForm : Form → Type 0
IsSoundForm (Lines sheet axis edit) = IsSoundEdit (limit_of axis) edit
IsSoundForm (Cells source to) =
    IsBlockInside source × IsBlockInside (destination source to) × (source ≢ destination source to)
IsSoundForm (Sheet sheet) = Unit {0}

abbrev pub IsSound : Shift → Type 0
IsSound s = IsSoundForm (form_of s)
