-- Blocks cut into slots, each a segment of rows by a segment of columns.
use Rattle.std.specs.Prelude.{ℕ, ◌&&◌, Bool, List}
use Rattle.std.specs.List.{count_by}
use Rattle.std.specs.declared.ops.Range.{Range}
use Rattle.block_slots.specs.Segments.{segment_at, has_line, in_lines}
use Rattle.block_slots.specs.declared.slot.Size.{Size}
use Rattle.block_slots.specs.declared.slot.Slot.{Slot}

-- the slot of a size at a cell
abbrev pub slot_at : Size → ℕ → ℕ → Slot
slot_at size row col = record { rows = segment_at size.row_level row; cols = segment_at size.col_level col }

-- the size of a slot
abbrev pub size_of : Slot → Size
size_of s = record { row_level = s.rows.level; col_level = s.cols.level }

-- the cell is one of the slot's
abbrev pub has_cell : Slot → ℕ → ℕ → Bool
has_cell s row col = has_line s.rows row && has_line s.cols col

-- in how many of the slots the cell is
abbrev pub slots_with : List Slot → ℕ → ℕ → ℕ
slots_with slots row col = count_by (λ s. has_cell s row col) slots

-- the cell is one of the block's
abbrev pub in_block : Range ℕ → Range ℕ → ℕ → ℕ → Bool
in_block rows cols row col = in_lines rows row && in_lines cols col
