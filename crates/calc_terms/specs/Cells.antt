-- The cells of a block. Source: this project's own.
use Rattle.std.specs.Prelude.{ℕ, ◌*◌, Bool, not, ◌&&◌, nat_le, nat_lt, List, length, map}
use Rattle.std.specs.List.{filter, flat_map, range_with_len}
use Rattle.cell_addr.specs.Place.{height, width}
use Rattle.cell_addr.specs.declared.place.Place.{Place}
use Rattle.cell_addr.specs.declared.place.Block.{Block}
use Rattle.cell_addr.specs.declared.place.TheConstants.{ROWS, COLS}
use Rattle.cell_value.specs.Scalar.{is_empty}
use Rattle.cell_value.specs.declared.scalar.Scalar.{Scalar}
use Rattle.cell_value.specs.Cells.{Cells}

-- how many cells a block has
abbrev pub size_of : Block → ℕ
size_of b = height b * width b

-- the block lies within the limits of a sheet, with its ends in order
abbrev pub fits : Block → Bool
fits b = nat_le b.top b.bottom && (nat_lt b.bottom ROWS && (nat_le b.left b.right && nat_lt b.right COLS))

-- the values of the cells of one row of a block, and of all, row by row
abbrev pub row_values : (Place → Scalar) → Block → ℕ → List Scalar
row_values shown b row = map (λ col. shown (record { sheet = b.sheet; row = row; col = col })) (range_with_len b.left (width b))

abbrev pub block_values : (Place → Scalar) → Block → List Scalar
block_values shown b = flat_map (row_values shown b) (range_with_len b.top (height b))

-- how many cells of a block aren't empty where each place shows the given value
unfoldable pub filled_in : (Place → Scalar) → Block → ℕ
filled_in shown b = length (filter (λ value. not (is_empty value)) (block_values shown b))

-- the cells of a block where each place shows the given value
unfoldable pub cells_in : (Place → Scalar) → Block → Cells
cells_in shown b = record { rows = height b; cols = width b; values = block_values shown b }
