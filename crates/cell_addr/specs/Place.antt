-- Places and blocks of a sheet. Source: this project's own limits.
use Rattle.std.specs.Prelude.{◌≡◌, ◌<◌, ◌≤◌, ℕ, suc, ◌-◌, Bool, ◌&&◌, ◌==◌, nat_le}
use Rattle.cell_addr.specs.declared.place.Place.{Place}
use Rattle.cell_addr.specs.declared.place.Block.{Block}
use Rattle.cell_addr.specs.declared.place.TheConstants.{ROWS, COLS}

-- the place is within the limits of a sheet
abbrev pub IsInside : Place → Type 0
IsInside p = (p.row < ROWS) × (p.col < COLS)

-- both corners are within the limits, and the ends are in order
abbrev pub IsBlockInside : Block → Type 0
IsBlockInside b = (b.top ≤ b.bottom) × (b.bottom < ROWS) × (b.left ≤ b.right) × (b.right < COLS)

-- how many rows and columns a block has, which are none where its ends are out of order
abbrev pub height : Block → ℕ
height b = suc b.bottom - b.top

abbrev pub width : Block → ℕ
width b = suc b.right - b.left

-- the block covers the place: sheet, row and column lie within its ends
abbrev pub Covers : Block → Place → Type 0
Covers b p = (b.sheet ≡ p.sheet) × (b.top ≤ p.row) × (p.row ≤ b.bottom) × (b.left ≤ p.col) × (p.col ≤ b.right)

-- the same as a test
abbrev pub covers : Block → Place → Bool
covers b p =
    b.sheet == p.sheet && (nat_le b.top p.row && (nat_le p.row b.bottom && (nat_le b.left p.col && nat_le p.col b.right)))

-- some place is covered by both blocks
abbrev pub CoverOne : Block → Block → Type 0
CoverOne a b = (p : Place) × (Covers a p × Covers b p)

-- each place that the second block covers is covered by the first
abbrev pub CoversAllOf : Block → Block → Type 0
CoversAllOf a b = (p : Place) → Covers b p → Covers a p

-- tests whether two places, or two blocks, are the same
abbrev pub same_place : Place → Place → Bool
same_place p q = p.sheet == q.sheet && (p.row == q.row && p.col == q.col)

abbrev pub same_block : Block → Block → Bool
same_block b c = b.sheet == c.sheet && ((b.top == c.top && b.left == c.left) && (b.bottom == c.bottom && b.right == c.right))
