-- The numbers of the lines of places, and where they stand. Source: this project's own.
use Rattle.std.specs.Prelude.{◌≡◌, ◌↔◌, ◌+◌, ◌-◌, ◌≤◌, ◌&&◌, ℕ, Bool, nat_le, nat_lt, if◌then◌else◌, List, Option, Some, None, unwrap_or, IsTrue}
use Rattle.std.specs.List.{list_any}
use Rattle.std.specs.declared.ops.Range.{Range}
use Rattle.cell_addr.specs.Axis.{limit_of}
use Rattle.cell_addr.specs.declared.axis.Axis.{Axis}
use Rattle.cell_addr.specs.declared.axis.Axis.TheVariants.{Cols, Rows}
use Rattle.cell_addr.specs.declared.axis.Span.{Span}
use Rattle.cell_addr.specs.declared.place.Place.{Place}
use Rattle.cell_addr.specs.declared.place.Block.{Block}
use Rattle.stable_lines.specs.Lines.{first_line, line_at, position_of}
use Rattle.stable_lines.specs.Sheets.{table_of}
use Rattle.stable_lines.specs.declared.table.LineTable.{LineTable}
use Rattle.place_lines.specs.declared.area.LineArea.{LineArea}
use Rattle.place_lines.specs.declared.lines.PlaceLines.{PlaceLines}
use Rattle.place_lines.specs.declared.spot.LineSpot.{LineSpot}
use Rattle.place_lines.specs.declared.past.TheConstants.{PAST}

-- how many positions 32 bits count
abbrev pub positions : ℕ
positions = 4294967296

-- a position past a sheet's end as the number of a line
abbrev pub past : ℕ → ℕ
past position = PAST + position

-- the number of the line at a position
abbrev pub number_of : LineTable → ℕ → ℕ
number_of t position = unwrap_or (line_at t position) (past position)

-- the position past the sheet's end that a number stands for; none where it is one of the sheet's, or no position
abbrev pub past_position : LineTable → ℕ → Option ℕ
past_position t position = if nat_le t.limit position && nat_lt position positions then Some position else None

-- where the line of a number stands; none where it stands nowhere
abbrev pub position_at : LineTable → ℕ → Option ℕ
position_at t number = if nat_lt number PAST then position_of t number else past_position t (number - PAST)

-- the lines of a sheet along an axis
abbrev pub table_along : Axis → PlaceLines → ℕ → LineTable
table_along Rows lines sheet = table_of lines.rows sheet
table_along Cols lines sheet = table_of lines.cols sheet

-- no sheet was edited yet: each of its lines is at the position of its own number
abbrev pub AreFirst : PlaceLines → Type 0
AreFirst lines = (axis : Axis) (sheet position : ℕ) → line_at (table_along axis lines sheet) position ≡ first_line (limit_of axis) position

-- the spot of a place
abbrev pub spot_of : PlaceLines → Place → LineSpot
spot_of lines p = record {
  sheet = p.sheet;
  row = number_of (table_of lines.rows p.sheet) p.row;
  col = number_of (table_of lines.cols p.sheet) p.col;
}

-- the place of two positions of a sheet, where both are there
abbrev pub place_of : ℕ → Option ℕ → Option ℕ → Option Place
place_of sheet (Some row) (Some col) = Some (record { sheet = sheet; row = row; col = col })
place_of sheet _ _ = None

-- where a spot is; none where its row or its column stands nowhere
abbrev pub place_at : PlaceLines → LineSpot → Option Place
place_at lines spot =
    place_of spot.sheet (position_at (table_of lines.rows spot.sheet) spot.row) (position_at (table_of lines.cols spot.sheet) spot.col)

-- the area of a block
abbrev pub area_of : PlaceLines → Block → LineArea
area_of lines b = record {
  sheet = b.sheet;
  top = number_of (table_of lines.rows b.sheet) b.top;
  left = number_of (table_of lines.cols b.sheet) b.left;
  bottom = number_of (table_of lines.rows b.sheet) b.bottom;
  right = number_of (table_of lines.cols b.sheet) b.right;
}

-- the block of two corners of a sheet, where both are there
abbrev pub block_of : Option Place → Option Place → Option Block
block_of (Some first) (Some last) = Some (record { sheet = first.sheet; top = first.row; left = first.col; bottom = last.row; right = last.col })
block_of _ _ = None

-- the spots of an area's corners
abbrev pub first_spot : LineArea → LineSpot
first_spot a = record { sheet = a.sheet; row = a.top; col = a.left }

abbrev pub last_spot : LineArea → LineSpot
last_spot a = record { sheet = a.sheet; row = a.bottom; col = a.right }

-- where an area is; none where one of its lines stands nowhere
abbrev pub block_at : PlaceLines → LineArea → Option Block
block_at lines a = block_of (place_at lines (first_spot a)) (place_at lines (last_spot a))

-- the number is in one of the ranges
abbrev pub in_runs : List (Range ℕ) → ℕ → Bool
in_runs runs number = list_any (λ r. nat_le r.start number && nat_lt number r.end) runs

-- exactly the numbers of the lines from the first position to the last
abbrev pub AreNumbersOf : LineTable → Span → List (Range ℕ) → Type 0
AreNumbersOf t span runs =
    (number : ℕ) → IsTrue (in_runs runs number) ↔ ((position : ℕ) × (span.first ≤ position) × (position ≤ span.last) × (number_of t position ≡ number))
