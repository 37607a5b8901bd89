-- Cells that find the numbers under which blocks are filed.
use Rattle.std.specs.Prelude.{◌≡◌, ◌&&◌, ℕ, Bool, true, nat_le, nat_lt}
use Rattle.std.specs.declared.ops.Range.{Range}
use Rattle.block_index.specs.Index.{finds}
use Rattle.block_index.specs.declared.index.BlockIndex.{BlockIndex}
use Rattle.cell_addr.specs.Place.{covers}
use Rattle.cell_addr.specs.declared.place.Block.{Block}
use Rattle.cell_addr.specs.declared.place.Place.{Place}
use Rattle.place_lines.specs.Spots.{spot_of}
use Rattle.place_lines.specs.declared.lines.PlaceLines.{PlaceLines}
use Rattle.place_lines.specs.declared.spot.LineSpot.{LineSpot}

-- the line is one of the run
abbrev pub in_run : Range ℕ → ℕ → Bool
in_run run line = nat_le run.start line && nat_lt line run.end

-- the cell at a spot finds the number
abbrev pub finds_at : BlockIndex → LineSpot → ℕ → Bool
finds_at x spot n = finds x spot.sheet spot.row spot.col n

-- what cells found they find still
abbrev pub StillFind : BlockIndex → BlockIndex → Type 0
StillFind old new = (sheet row col n : ℕ) → finds old sheet row col n ≡ true → finds new sheet row col n ≡ true

-- each cell of the block finds the number
abbrev pub FindsCells : BlockIndex → PlaceLines → Block → ℕ → Type 0
FindsCells x lines b n = (p : Place) → covers b p ≡ true → finds_at x (spot_of lines p) n ≡ true
