-- A plain grid: each cell's value stands under its place, and moves with it.
use Rattle.std.specs.Prelude.{Bool, false, ◌&&◌, nat_lt, if◌then◌else◌, List, [], ◌∷◌, Option, None, option_and_then}
use Rattle.std.specs.Option.{option_map_or}
use Rattle.cell_addr.specs.Place.{same_place}
use Rattle.cell_addr.specs.declared.place.Place.{Place}
use Rattle.cell_addr.specs.declared.place.TheConstants.{COLS, ROWS}
use Rattle.cell_value.specs.declared.scalar.Scalar.{Scalar}
use Rattle.cell_value.specs.declared.scalar.Scalar.TheVariants.{Empty}
use Rattle.shift_core.specs.Tables.{place_after}
use Rattle.shift_core.specs.declared.shift.Shift.{Shift}
use Rattle.range_cases.specs.declared.grid.Filled.{Filled}

-- the cell stands at the place
abbrev pub stands_at : Filled → Place → Bool
stands_at cell p = option_map_or (λ q. same_place q p) cell.at false

-- the value of a place: that of the first cell that stands there
abbrev pub value_in : List Filled → Place → Scalar
value_in [] p = Empty
value_in (cell ∷ rest) p = if stands_at cell p then cell.value else value_in rest p

-- where the operation moves a place of the sheet; other places are lost
abbrev pub moved_on_sheet : Shift → Place → Option Place
moved_on_sheet s p = if nat_lt p.row ROWS && nat_lt p.col COLS then place_after s p else None

-- the cell where the operation moves it; nowhere once it is lost
abbrev pub moved_cell : Shift → Filled → Filled
moved_cell s cell = record { at = option_and_then (moved_on_sheet s) cell.at; value = cell.value }
