-- Which cells and blocks an index keeps under numbers, and which of them it finds. Source: this project's own.
use Rattle.std.specs.Prelude.{ℕ, Bool, ◌<◌, ◌≤◌, List, IsTrue}
use Rattle.block_index.specs.Index.{finds}
use Rattle.cell_addr.specs.Axis.{span_of}
use Rattle.cell_addr.specs.Place.{CoverOne, IsBlockInside, IsInside}
use Rattle.cell_addr.specs.declared.axis.Axis.{Axis}
use Rattle.cell_addr.specs.declared.axis.Axis.TheVariants.{Cols, Rows}
use Rattle.cell_addr.specs.declared.place.Block.{Block}
use Rattle.cell_addr.specs.declared.place.Place.{Place}
use Rattle.needs_order.specs.Needs.{has}
use Rattle.place_lines.specs.Spots.{number_of, spot_of, table_along}
use Rattle.place_lines.specs.declared.lines.PlaceLines.{PlaceLines}
use Rattle.place_lines.specs.declared.spot.LineSpot.{LineSpot}
use Rattle.shift_core.specs.Carried.{first_place}
use Rattle.shift_core.specs.declared.form.Form.{Form}
use Rattle.touch_index.specs.Touched.{TouchesBlock, TouchesCell}
use Rattle.touch_index.specs.declared.index.TouchIndex.{TouchIndex}
use Rattle.touch_index.specs.internal.Points.{has_point}

-- a cell at the spot is kept under the number
abbrev pub keeps_cell : TouchIndex → LineSpot → ℕ → Bool
keeps_cell x spot n = has_point x.cells spot n

-- a block that begins at the spot is kept under the number
abbrev pub begins_at : TouchIndex → LineSpot → ℕ → Bool
begins_at x spot n = has_point x.firsts spot n

-- a block that has this line of a sheet, but not as its first, is kept under the number
abbrev pub goes_on : Axis → TouchIndex → ℕ → ℕ → ℕ → Bool
goes_on Rows x sheet line n = finds x.rows sheet line 0 n
goes_on Cols x sheet line n = finds x.cols sheet line 0 n

-- the cell at a place is kept under the number
abbrev pub KeepsCell : TouchIndex → PlaceLines → Place → ℕ → Type 0
KeepsCell x lines p n = IsTrue (keeps_cell x (spot_of lines p) n)

-- along the axis the block under the number goes on over each line of this one but the first
abbrev pub GoesOver : Axis → TouchIndex → PlaceLines → Block → ℕ → Type 0
GoesOver axis x lines b n =
    (position : ℕ) → (span_of axis b).first < position → position ≤ (span_of axis b).last →
    IsTrue (goes_on axis x b.sheet (number_of (table_along axis lines b.sheet) position) n)

-- the block is kept under the number: where it begins, and each other line of it
abbrev pub KeepsBlock : TouchIndex → PlaceLines → Block → ℕ → Type 0
KeepsBlock x lines b n = IsTrue (begins_at x (spot_of lines (first_place b)) n) × GoesOver Rows x lines b n × GoesOver Cols x lines b n

-- what was kept is kept still
abbrev pub Grows : TouchIndex → TouchIndex → Type 0
Grows old new =
    ((spot : LineSpot) (n : ℕ) → IsTrue (keeps_cell old spot n) → IsTrue (keeps_cell new spot n))
    × ((spot : LineSpot) (n : ℕ) → IsTrue (begins_at old spot n) → IsTrue (begins_at new spot n))
    × ((axis : Axis) (sheet line n : ℕ) → IsTrue (goes_on axis old sheet line n) → IsTrue (goes_on axis new sheet line n))

-- each kept cell of the sheet that an operation touches is among the numbers
abbrev pub FindsCells : TouchIndex → PlaceLines → Form → List ℕ → Type 0
FindsCells x lines f numbers = (p : Place) (n : ℕ) → IsInside p → KeepsCell x lines p n → TouchesCell f p → IsTrue (has n numbers)

-- each kept block of the sheet that an operation touches is among the numbers
abbrev pub FindsBlocks : TouchIndex → PlaceLines → Form → List ℕ → Type 0
FindsBlocks x lines f numbers = (b : Block) (n : ℕ) → IsBlockInside b → KeepsBlock x lines b n → TouchesBlock f b → IsTrue (has n numbers)

-- each kept block of the sheet that has a cell in common with the other is among the numbers
abbrev pub FindsMeeting : TouchIndex → PlaceLines → Block → List ℕ → Type 0
FindsMeeting x lines other numbers = (b : Block) (n : ℕ) → IsBlockInside b → KeepsBlock x lines b n → CoverOne b other → IsTrue (has n numbers)
