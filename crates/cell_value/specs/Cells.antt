-- The values of a block's cells, row by row. Source: this project's own.
use Rattle.std.specs.Prelude.{ℕ, ◌+◌, ◌*◌, ◌≡◌, true, List, replicate, drop, slice_index_or, slice_set}
use Rattle.std.specs.List.{list_all}
use Rattle.cell_value.specs.declared.scalar.Scalar.{Scalar}
use Rattle.cell_value.specs.declared.scalar.Scalar.TheVariants.{Empty}
use Rattle.cell_value.specs.Scalar.{is_empty}

-- the values of so many rows and columns of cells: first those of the first row, then those of the next
pub record Cells : Type 0 where
  pub rows : ℕ
  pub cols : ℕ
  pub values : List Scalar

-- where the cell in this row and column stands among all, from 0
abbrev pub index_of : Cells → ℕ → ℕ → ℕ
index_of cells row col = row * cells.cols + col

-- the value of the cell in this row and column
abbrev pub value_at : Cells → ℕ → ℕ → Scalar
value_at cells row col = slice_index_or cells.values (index_of cells row col) Empty

-- so many rows and columns of empty cells
abbrev pub empty_cells : ℕ → ℕ → Cells
empty_cells rows cols = record { rows = rows; cols = cols; values = replicate (rows * cols) Empty }

-- the cell in this row and column and all that follow it are empty
abbrev pub IsEmptyFrom : Cells → ℕ → ℕ → Type 0
IsEmptyFrom cells row col = list_all is_empty (drop (index_of cells row col) cells.values) ≡ true

-- the cells with this value in this row and column
abbrev pub with_value : Cells → ℕ → ℕ → Scalar → Cells
with_value cells row col value = record cells { values = slice_set cells.values (index_of cells row col) value }
