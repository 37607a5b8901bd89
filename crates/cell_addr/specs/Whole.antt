-- Whole ranges: all rows or all columns of a sheet from one to another, and the blocks of their cells.
-- Source: this project's own.
use Rattle.std.specs.Prelude.{ℕ, ◌-◌, ◌<◌, ◌≤◌, Bool, ◌&&◌, ◌==◌}
use Rattle.cell_addr.specs.declared.axis.Axis.{Axis}
use Rattle.cell_addr.specs.declared.axis.Span.{Span}
use Rattle.cell_addr.specs.declared.place.Block.{Block}
use Rattle.cell_addr.specs.declared.place.TheConstants.{ROWS, COLS}
use Rattle.cell_addr.specs.declared.whole.Whole.{Whole}
use Rattle.cell_addr.specs.Axis.{limit_of, same_axis, span_of, with_span}

-- the ends are in order, and within the limits of a sheet
abbrev pub IsWholeInside : Whole → Type 0
IsWholeInside w = (w.first ≤ w.last) × (w.last < limit_of w.axis)

-- the rows or columns of a whole range, by the first and the last
abbrev pub lines_of : Whole → Span
lines_of w = record { first = w.first; last = w.last }

-- the block of all cells of a sheet
abbrev pub sheet_block : ℕ → Block
sheet_block sheet = record { sheet = sheet; top = 0; left = 0; bottom = ROWS - 1; right = COLS - 1 }

-- the block of all cells of a whole range: its lines from one end of the sheet to the other
abbrev pub whole_block : Whole → Block
whole_block w = with_span w.axis (lines_of w) (sheet_block w.sheet)

-- all rows, or all columns, from a block's first to its last
abbrev pub whole_of : Axis → Block → Whole
whole_of axis b = record { sheet = b.sheet; axis = axis; first = (span_of axis b).first; last = (span_of axis b).last }

-- the test whether two whole ranges are the same
abbrev pub same_whole : Whole → Whole → Bool
same_whole v w = (v.sheet == w.sheet && same_axis v.axis w.axis) && (v.first == w.first && v.last == w.last)
