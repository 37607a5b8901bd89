-- A table of kept summaries. Source: this project's own.
use Rattle.std.specs.Prelude.{◌≡◌, ℕ, ◌+◌, ◌-◌, ◌^◌, nat_lt, not, min, if◌then◌else◌, Option, Some, None, is_some, option_and_then}
use Rattle.std.specs.FinMap as map
use Rattle.cell_addr.specs.Place.{covers}
use Rattle.cell_addr.specs.declared.place.Block.{Block}
use Rattle.cell_addr.specs.declared.place.Place.{Place}
use Rattle.cell_value.specs.declared.scalar.Scalar.{Scalar}
use Rattle.cell_value.specs.declared.summary.Summary.{Summary}
use Rattle.range_table.specs.Blocks.{BlockMap}
use Rattle.range_table.specs.Cells.{fold, nonempty_in}

-- the kept summaries by their blocks, and how many cells were merged so far
pub record RangeTable : Type 0 where
  pub kept : BlockMap Summary
  pub merged : ℕ

-- each kept summary is what the block's cells come to where places have these values
abbrev pub AreFolds : (Place → Scalar) → BlockMap Summary → Type 0
AreFolds values kept = (b : Block) (s : Summary) → map.get kept b ≡ Some s → s ≡ fold values b

-- the block without its last row, where it has more than one
abbrev pub without_last_row : Block → Option Block
without_last_row b = if nat_lt b.top b.bottom then Some (record b { bottom = b.bottom - 1 }) else None

-- the last row of a block
abbrev pub last_row : Block → Block
last_row b = record b { top = b.bottom }

-- the summary from which that of a block can go on
abbrev pub begun : BlockMap Summary → Block → Option Summary
begun kept b = option_and_then (map.get kept) (without_last_row b)

-- how many cells are left to merge: those of the last row after the summary of what is above it, and else all; no empty ones
abbrev pub cells_left : (Place → Scalar) → Block → Option Summary → ℕ
cells_left values b (Some above) = nonempty_in values (last_row b)
cells_left values b None = nonempty_in values b

-- how many cells are merged for the summary of a block: none where it is kept
abbrev pub cells_to_merge : (Place → Scalar) → BlockMap Summary → Block → ℕ
cells_to_merge values kept b = if is_some (map.get kept b) then 0 else cells_left values b (begun kept b)

-- a count that goes up and stays at the greatest number of 64 bits
abbrev pub counted_on : ℕ → ℕ → ℕ
counted_on count more = min (count + more) (2 ^ 64 - 1)

-- the table after the summary of a block was asked for, where places have these values
abbrev pub with_summary : (Place → Scalar) → Block → RangeTable → RangeTable
with_summary values b t = record { kept = map.insert t.kept b (fold values b); merged = counted_on t.merged (cells_to_merge values t.kept b) }

-- the map without the blocks that hold the place
abbrev pub without_holders : Place → BlockMap Summary → BlockMap Summary
without_holders p kept = map.retain_keys kept (λ b. not (covers b p))

-- the table after a place was touched
abbrev pub touched : Place → RangeTable → RangeTable
touched p t = record { kept = without_holders p t.kept; merged = t.merged }
