-- The lines of places after structural operations. Source: this project's own.
use Rattle.std.specs.Prelude.{◌≡◌, ◌==◌, ◌<◌, ◌≤◌, ◌⊎◌, ◌&&◌, ◌||◌, ℕ, Bool, false, nat_le, nat_lt}
use Rattle.cell_addr.specs.Axis.{limit_of}
use Rattle.cell_addr.specs.declared.axis.Axis.{Axis}
use Rattle.shift_core.specs.Form.{across}
use Rattle.shift_core.specs.Lines.{line_before}
use Rattle.shift_core.specs.declared.form.Form.{Form}
use Rattle.shift_core.specs.declared.form.Form.TheVariants.{Lines}
use Rattle.stable_lines.specs.Lines.{AreRenewed, AreSame}
use Rattle.stable_lines.specs.Sheets.{table_of}
use Rattle.stable_lines.specs.declared.table.LineTable.{LineTable}
use Rattle.place_lines.specs.Spots.{table_along}
use Rattle.place_lines.specs.declared.lines.PlaceLines.{PlaceLines}
use Rattle.place_lines.specs.declared.spot.LineSpot.{LineSpot}
use Rattle.place_lines.specs.declared.past.TheConstants.{PAST}

-- along the axis the lines of all other sheets are the same
abbrev pub OthersStay : Axis → ℕ → PlaceLines → PlaceLines → Type 0
OthersStay axis sheet old new = (other : ℕ) → (other == sheet) ≡ false → AreSame (table_along axis new other) (table_along axis old other)

-- along the axis all lines are the same
abbrev pub AllStay : Axis → PlaceLines → PlaceLines → Type 0
AllStay axis old new = (sheet : ℕ) → AreSame (table_along axis new sheet) (table_along axis old sheet)

-- an edit of the lines of a sheet renews these, and nothing else does
abbrev pub AreMoved : Form → PlaceLines → PlaceLines → Type 0
AreMoved (Lines sheet axis edit) old new =
    AreRenewed (line_before (limit_of axis) edit) (table_along axis old sheet) (table_along axis new sheet)
    × OthersStay axis sheet old new × AllStay (across axis) old new
AreMoved _ old new = (axis : Axis) → AllStay axis old new

-- the number is one that a line may have had by now, or that of a position past the sheet's end
abbrev pub IsKnownLine : LineTable → ℕ → Type 0
IsKnownLine t number = (number < t.next) ⊎ (PAST ≤ number)

-- both lines of the spot are known
abbrev pub IsKnown : PlaceLines → LineSpot → Type 0
IsKnown lines spot = IsKnownLine (table_of lines.rows spot.sheet) spot.row × IsKnownLine (table_of lines.cols spot.sheet) spot.col

-- the same as tests
abbrev pub is_known_line : LineTable → ℕ → Bool
is_known_line t number = nat_lt number t.next || nat_le PAST number

abbrev pub is_known : PlaceLines → LineSpot → Bool
is_known lines spot = is_known_line (table_of lines.rows spot.sheet) spot.row && is_known_line (table_of lines.cols spot.sheet) spot.col
