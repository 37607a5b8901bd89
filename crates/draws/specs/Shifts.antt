-- Which structural operations are drawn. Source: this project's own.
use Rattle.std.specs.Prelude.{ℕ, ◌<◌}
use Rattle.cell_addr.specs.declared.place.Place.{Place}
use Rattle.shift_core.specs.declared.shift.Shift.{Shift}
use Rattle.shift_core.specs.declared.shift.Shift.TheVariants.{DeleteCols, DeleteRows, DropSheet, InsertCols, InsertRows, MoveBlock, MoveCols, MoveRows}
use Rattle.draws.specs.Draws.{BeginsNear, IsAmong, IsNear}
use Rattle.draws.specs.declared.corner.TheConstants.{COLS_DRAWN, ROWS_DRAWN}
use Rattle.draws.specs.declared.shifts.TheConstants.{COUNT}

-- a few rows of one of the first two sheets, from one near the cell on from which places are drawn
abbrev pub AreRowsNear : Place → ℕ → ℕ → ℕ → Type 0
AreRowsNear from sheet row count = (sheet < 2) × IsAmong from.row ROWS_DRAWN row × (count < COUNT)

-- and columns
abbrev pub AreColsNear : Place → ℕ → ℕ → ℕ → Type 0
AreColsNear from sheet col count = (sheet < 2) × IsAmong from.col COLS_DRAWN col × (count < COUNT)

-- the operation is on lines near that cell, moves a block from there to a place there, or is on a whole sheet of the two
abbrev pub IsShiftNear : Place → Shift → Type 0
IsShiftNear from (InsertRows sheet at count) = AreRowsNear from sheet at count
IsShiftNear from (DeleteRows sheet at count) = AreRowsNear from sheet at count
IsShiftNear from (InsertCols sheet at count) = AreColsNear from sheet at count
IsShiftNear from (DeleteCols sheet at count) = AreColsNear from sheet at count
IsShiftNear from (MoveRows sheet first count before) = AreRowsNear from sheet first count × IsAmong from.row ROWS_DRAWN before
IsShiftNear from (MoveCols sheet first count before) = AreColsNear from sheet first count × IsAmong from.col COLS_DRAWN before
IsShiftNear from (MoveBlock source to) = BeginsNear from source × IsNear from to
IsShiftNear from (DropSheet sheet) = sheet < 2
