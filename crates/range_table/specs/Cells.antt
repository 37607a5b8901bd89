-- The cells of a block, and what their numbers come to. Source: this project's own.
use Rattle.std.specs.Prelude.{ℕ, ◌*◌, not, List, length, map}
use Rattle.std.specs.Borrow.{Bor}
use Rattle.std.specs.List.{filter, flat_map, range_with_len}
use Rattle.cell_addr.specs.Place.{height, width}
use Rattle.cell_addr.specs.declared.place.Place.{Place}
use Rattle.cell_addr.specs.declared.place.Block.{Block}
use Rattle.cell_value.specs.Scalar.{is_empty}
use Rattle.cell_value.specs.Summary.{summary_of}
use Rattle.cell_value.specs.declared.scalar.Scalar.{Scalar}
use Rattle.cell_value.specs.declared.summary.Summary.{Summary}

-- how many cells a block has
abbrev pub cells_in : Block → ℕ
cells_in b = height b * width b

-- the values of the cells of one row of a block, and of all, row by row
abbrev pub row_values : (Place → Scalar) → Block → ℕ → List Scalar
row_values values b row = map (λ col. values (record { sheet = b.sheet; row = row; col = col })) (range_with_len b.left (width b))

abbrev pub block_values : (Place → Scalar) → Block → List Scalar
block_values values b = flat_map (row_values values b) (range_with_len b.top (height b))

-- lent values, as they are seen
abbrev pub seen_values : List (Bor Scalar) → List Scalar
seen_values = map (λ value. value.now)

-- those of some values that aren't empty, and how many cells of a block aren't
abbrev pub nonempty : List Scalar → List Scalar
nonempty = filter (λ value. not (is_empty value))

abbrev pub nonempty_in : (Place → Scalar) → Block → ℕ
nonempty_in values b = length (nonempty (block_values values b))

-- what the numbers of a block's cells come to
abbrev pub fold : (Place → Scalar) → Block → Summary
fold values b = summary_of (block_values values b)
