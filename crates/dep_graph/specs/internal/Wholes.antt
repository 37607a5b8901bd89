-- Whole ranges under the slots of their lines along one axis, and what cells find of them.
use Rattle.std.specs.Prelude.{◌≡◌, ◌↔◌, ◌==◌, ◌&&◌, ℕ, Bool, true, List, [], nat_lt, Option, None, option_map, if◌then◌else◌, IsTrue}
use Rattle.std.specs.List.{list_any}
use Rattle.std.specs.declared.ops.Range.{Range}
use Rattle.block_index.specs.Index.{finds, slots_of}
use Rattle.block_index.specs.declared.index.BlockIndex.{BlockIndex}
use Rattle.block_slots.specs.Segments.{in_lines}
use Rattle.cell_addr.specs.Axis.{across}
use Rattle.cell_addr.specs.Whole.{lines_of, whole_block, whole_of}
use Rattle.cell_addr.specs.declared.axis.Axis.{Axis}
use Rattle.cell_addr.specs.declared.axis.Axis.TheVariants.{Cols, Rows}
use Rattle.cell_addr.specs.declared.axis.Span.{Span}
use Rattle.cell_addr.specs.declared.whole.Whole.{Whole}
use Rattle.place_lines.specs.Moved.{is_known_line}
use Rattle.place_lines.specs.Spots.{number_of, past, table_along}
use Rattle.place_lines.specs.declared.lines.PlaceLines.{PlaceLines}
use Rattle.place_lines.specs.declared.spot.LineSpot.{LineSpot}
use Rattle.shift_core.specs.Form.{IsWithin}
use Rattle.shift_core.specs.Wholes.{runs_across}
use Rattle.shift_core.specs.declared.form.Form.{Form}
use Rattle.stable_lines.specs.declared.table.LineTable.{LineTable}
use Rattle.touch_index.specs.Handed.{fresh_part}

-- what the input of a hasher begins with for a whole range, by its axis
abbrev pub tag_of : Axis → ℕ
tag_of Rows = 3
tag_of Cols = 4

-- the number is that of a line of a sheet, and not of a position past its end
abbrev pub is_line : ℕ → Bool
is_line number = nat_lt number (past 0)

-- the number of a spot's line along an axis
abbrev pub number_on : Axis → LineSpot → ℕ
number_on Rows spot = spot.row
number_on Cols spot = spot.col

-- the spot is on a line of the sheet across the axis
abbrev pub is_on_sheet : Axis → LineSpot → Bool
is_on_sheet axis spot = is_line (number_on (across axis) spot)

-- the lines of whole ranges are filed as the rows of one column: that of their axis
abbrev pub column_of : Axis → ℕ
column_of Rows = 0
column_of Cols = 1

-- along an axis the cell at a spot finds the number
abbrev pub finds_along : Axis → BlockIndex → LineSpot → ℕ → Bool
finds_along axis wholes spot n = is_on_sheet axis spot && finds wholes spot.sheet (number_on axis spot) (column_of axis) n

-- the slots of whole ranges along an axis that hold a spot
abbrev pub slots_along : Axis → BlockIndex → LineSpot → List ℕ
slots_along axis wholes spot = if is_on_sheet axis spot then slots_of wholes spot.sheet (number_on axis spot) (column_of axis) else []

-- the spot is on a run of lines of a sheet along the axis, or on one of these runs
abbrev pub on_run : ℕ → Axis → Range ℕ → LineSpot → Bool
on_run sheet axis run spot = spot.sheet == sheet && (is_on_sheet axis spot && in_lines run (number_on axis spot))

abbrev pub on_runs : ℕ → Axis → List (Range ℕ) → LineSpot → Bool
on_runs sheet axis runs spot = list_any (λ run. on_run sheet axis run spot) runs

-- the number is that of a line from the first position to the last
abbrev pub IsNumberIn : LineTable → Span → ℕ → Type 0
IsNumberIn t span number = (position : ℕ) × IsWithin span position × (number_of t position ≡ number)

-- the spot is on the lines of the whole range
abbrev pub IsOnLines : PlaceLines → Whole → LineSpot → Type 0
IsOnLines lines w spot =
    (spot.sheet ≡ w.sheet) × IsTrue (is_on_sheet w.axis spot) × IsNumberIn (table_along w.axis lines w.sheet) (lines_of w) (number_on w.axis spot)

-- of the spots on lines that the sheet has along the axis, just those on the whole range's lines pass the test; and what
-- passes it is known to the lines, so that no line that comes in later does
abbrev pub HoldsWhole : PlaceLines → (LineSpot → Type 0) → Whole → Type 0
HoldsWhole lines test w = record {
  sheet : (spot : LineSpot) → test spot → spot.sheet ≡ w.sheet;
  exact : (spot : LineSpot) (position : ℕ) → spot.sheet ≡ w.sheet → number_of (table_along w.axis lines w.sheet) position ≡ number_on w.axis spot →
      test spot ↔ (IsTrue (is_on_sheet w.axis spot) × IsWithin (lines_of w) position);
  known : (spot : LineSpot) → test spot → is_known_line (table_along w.axis lines w.sheet) (number_on w.axis spot) ≡ true;
}

-- the part of a whole range that is on lines which an insert along its axis puts between others
abbrev pub fresh_whole : Form → Whole → Option Whole
fresh_whole f w = if runs_across f w then None else option_map (whole_of w.axis) (fresh_part f (whole_block w))
