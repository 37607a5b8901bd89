-- Where places and blocks are drawn. Source: this project's own.
use Rattle.std.specs.Prelude.{ℕ, ◌+◌, ◌≡◌, ◌≤◌, ◌<◌}
use Rattle.cell_addr.specs.declared.place.Block.{Block}
use Rattle.cell_addr.specs.declared.place.Place.{Place}
use Rattle.cell_addr.specs.declared.place.TheConstants.{COLS, ROWS}
use Rattle.draws.specs.declared.corner.Corner.{Corner}
use Rattle.draws.specs.declared.corner.Corner.TheVariants.{First, Last}
use Rattle.draws.specs.declared.corner.TheConstants.{COLS_DRAWN, ROWS_DRAWN}
use Rattle.draws.specs.declared.draws.TheConstants.{BLOCK_COLS, BLOCK_ROWS}

-- the first cell from which places near a corner are drawn: so many rows and columns from it on, all of them inside
abbrev pub IsCorner : Corner → Place → Type 0
IsCorner First at = (at.row ≡ 0) × (at.col ≡ 0)
IsCorner Last at = (at.row + ROWS_DRAWN ≡ ROWS) × (at.col + COLS_DRAWN ≡ COLS)

-- the line is one of so many from the first one on
abbrev pub IsAmong : ℕ → ℕ → ℕ → Type 0
IsAmong first count line = (first ≤ line) × (line < first + count)

-- the place is on one of the first two sheets, near the cell from which places are drawn
abbrev pub IsNear : Place → Place → Type 0
IsNear from at = (at.sheet < 2) × IsAmong from.row ROWS_DRAWN at.row × IsAmong from.col COLS_DRAWN at.col

-- the block begins there, and has at most so many rows and columns
abbrev pub BeginsNear : Place → Block → Type 0
BeginsNear from b =
    IsNear from (record { sheet = b.sheet; row = b.top; col = b.left })
    × IsAmong b.top BLOCK_ROWS b.bottom × IsAmong b.left BLOCK_COLS b.right
