-- The cells of an area that are kept: those that aren't empty, in order. Source: this project's own.
use Rattle.std.specs.Prelude.{ℕ, ◌+◌, ◌-◌, Bool, ◌&&◌, not, nat_le, nat_lt, List, [], ◌∷◌, ◌++◌, replicate}
use Rattle.cell_value.specs.declared.area.Filled.{Filled}
use Rattle.cell_value.specs.declared.scalar.Scalar.{Scalar}
use Rattle.cell_value.specs.declared.scalar.Scalar.TheVariants.{Empty}
use Rattle.cell_value.specs.Scalar.{is_empty}

-- the filled cells stand in order, from this cell on, among so many, and none of them is empty
abbrev pub are_filled : ℕ → ℕ → List Filled → Bool
are_filled from size [] = nat_le from size
are_filled from size (cell ∷ rest) =
    nat_le from cell.index && nat_lt cell.index size && not (is_empty cell.value) && are_filled (cell.index + 1) size rest

-- the values of all cells from this one on, of so many: those that aren't filled are empty
abbrev pub spread : ℕ → ℕ → List Filled → List Scalar
spread from size [] = replicate (size - from) Empty
spread from size (cell ∷ rest) = replicate (cell.index - from) Empty ++ cell.value ∷ spread (cell.index + 1) size rest
