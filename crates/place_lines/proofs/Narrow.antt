-- Positions of 32 bits and the numbers of their lines. Serves those who look places up under numbers that they kept.
use Rattle.std.proofs.Common.{ℕ, ◌<◌, inl, inr, arith}
use Rattle.cell_addr.specs.declared.axis.Axis.TheVariants.{Rows, Cols}
use Rattle.cell_addr.specs.declared.place.Block.{Block}
use Rattle.cell_addr.specs.declared.place.Place.{Place}
use Rattle.shift_core.specs.Carried.{first_place, last_place}
use Rattle.stable_lines.specs.declared.table.LineTable.{LineTable}
use Rattle.place_lines.specs.Laws.{IsNarrow, IsNarrowBlock}
use Rattle.place_lines.specs.internal.Low.{HasLowLines}
use Rattle.place_lines.specs.Spots.{area_of, number_of, past, positions, spot_of, table_along}
use Rattle.place_lines.specs.declared.lines.PlaceLines.{PlaceLines}
use Rattle.place_lines.proofs.LineNumbers.{has_number}
use Rattle.place_lines.proofs.Places.{low_along}

narrow_position : (t : LineTable) (x : ℕ) → number_of t x < past positions → x < positions
narrow_position t x low =
    elim (has_number t x) [
      | inl (l, at, here, within) ↦ let small = t.narrow in omega arith
      | inr (here, over) ↦ omega arith
    ]

-- and a position of 32 bits has the number of a line of the sheet, or of a position of 32 bits past its end
number_narrow : (t : LineTable) (x : ℕ) → HasLowLines t → x < positions → number_of t x < past positions
number_narrow t x low narrow =
    elim (has_number t x) [
      | inl (l, at, here, within) ↦ let small = low x l at in omega arith
      | inr (here, over) ↦ omega arith
    ]

-- the numbers of a narrow place
pub narrow_numbers : (lines : PlaceLines) (p : Place) → IsNarrow p → ((spot_of lines p).row < past positions) × ((spot_of lines p).col < past positions)
narrow_numbers lines p (row, col) = (
  number_narrow (table_along Rows lines p.sheet) p.row (low_along Rows lines p.sheet) row,
  number_narrow (table_along Cols lines p.sheet) p.col (low_along Cols lines p.sheet) col,
)

-- the numbers of a spot tell that its place is narrow
pub narrow_place : (lines : PlaceLines) (p : Place) → (spot_of lines p).row < past positions → (spot_of lines p).col < past positions → IsNarrow p
narrow_place lines p row col = (narrow_position (table_along Rows lines p.sheet) p.row row, narrow_position (table_along Cols lines p.sheet) p.col col)

-- the same of the corners of a block
pub narrow_block : (lines : PlaceLines) (b : Block) → (area_of lines b).top < past positions → (area_of lines b).left < past positions
    → (area_of lines b).bottom < past positions → (area_of lines b).right < past positions → IsNarrowBlock b
narrow_block lines b top left bottom right = (narrow_place lines (first_place b) top left, narrow_place lines (last_place b) bottom right)
