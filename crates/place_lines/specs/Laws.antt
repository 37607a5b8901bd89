-- What holds of spots over structural operations. Source: this project's own.
use Rattle.std.specs.Prelude.{◌≡◌, ◌<◌, ◌↔◌, Some}
use Rattle.cell_addr.specs.Place.{Covers, IsBlockInside, IsInside}
use Rattle.cell_addr.specs.declared.place.Block.{Block}
use Rattle.cell_addr.specs.declared.place.Place.{Place}
use Rattle.shift_core.specs.Bent.{IsBent, IsCut}
use Rattle.shift_core.specs.Carried.{first_place, last_place}
use Rattle.shift_core.specs.Form.{form_of}
use Rattle.shift_core.specs.Laws.{MovesNoBlock}
use Rattle.shift_core.specs.Sound.{IsSound}
use Rattle.shift_core.specs.Tables.{block_after, place_after}
use Rattle.shift_core.specs.declared.shift.Shift.{Shift}
use Rattle.place_lines.specs.Moved.{AreMoved, IsKnown}
use Rattle.place_lines.specs.Spots.{area_of, block_at, place_at, positions, spot_of}
use Rattle.place_lines.specs.declared.area.LineArea.{LineArea}
use Rattle.place_lines.specs.declared.lines.PlaceLines.{PlaceLines}
use Rattle.place_lines.specs.declared.spot.LineSpot.{LineSpot}

-- the lines of the place, or of the block, are numbers of 32 bits, as those of every value of a program are
abbrev pub IsNarrow : Place → Type 0
IsNarrow p = (p.row < positions) × (p.col < positions)

abbrev pub IsNarrowBlock : Block → Type 0
IsNarrowBlock b = IsNarrow (first_place b) × IsNarrow (last_place b)

-- no two places have one spot, and no two blocks one area; a place and a block are found under theirs, and nothing else is
abbrev pub SpotsReturn : Type 0
SpotsReturn =
    (lines : PlaceLines) →
    ((p q : Place) → spot_of lines p ≡ spot_of lines q → p ≡ q)
    × ((p : Place) → IsNarrow p → place_at lines (spot_of lines p) ≡ Some p)
    × ((spot : LineSpot) (p : Place) → place_at lines spot ≡ Some p → spot_of lines p ≡ spot)
    × ((b c : Block) → area_of lines b ≡ area_of lines c → b ≡ c)
    × ((b : Block) → IsNarrowBlock b → block_at lines (area_of lines b) ≡ Some b)
    × ((area : LineArea) (b : Block) → block_at lines area ≡ Some b → area_of lines b ≡ area)

-- spots are known where places have them, and stay known; a place whose spot was known before an operation has the spot
-- that some place had then
abbrev pub KnownSpotsWereThere : Type 0
KnownSpotsWereThere =
    ((lines : PlaceLines) (p : Place) → IsKnown lines (spot_of lines p))
    × ((s : Shift) (old new : PlaceLines) (spot : LineSpot) → AreMoved (form_of s) old new → IsKnown old spot → IsKnown new spot)
    × ((s : Shift) (old new : PlaceLines) (q : Place) → AreMoved (form_of s) old new → IsKnown old (spot_of new q) → ((p : Place) × (spot_of old p ≡ spot_of new q)))

-- unless the operation is a move of cells, a place within its sheet that it moves keeps its spot
abbrev pub PlacesKeepTheirSpots : Type 0
PlacesKeepTheirSpots =
    (s : Shift) (old new : PlaceLines) (p q : Place) → IsSound s → AreMoved (form_of s) old new → MovesNoBlock s → IsInside p →
    place_after s p ≡ Some q → spot_of old p ≡ spot_of new q

-- and a block within its sheet that it neither bends nor cuts keeps its area, and covers the places with the spots that it
-- covered before, and no other
abbrev pub UnbentBlocksKeepTheirSpots : Type 0
UnbentBlocksKeepTheirSpots =
    (s : Shift) (old new : PlaceLines) (b after : Block) → IsSound s → AreMoved (form_of s) old new → MovesNoBlock s →
    IsBlockInside b → ¬ IsBent s b → ¬ IsCut s b → block_after s b ≡ Some after →
    (area_of old b ≡ area_of new after)
    × ((q : Place) → Covers after q ↔ ((p : Place) × Covers b p × (spot_of old p ≡ spot_of new q)))
