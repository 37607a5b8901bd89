-- The filled cells of a block, in order. Source: this project's own.
use Rattle.std.specs.Borrow.{Bor}
use Rattle.std.specs.Prelude.{◌≡◌, true, List, map, unwrap_or, All}
use Rattle.std.specs.BTreeMap.{is_at}
use Rattle.std.specs.List.Sorted.{IsStrictlySortedBy}
use Rattle.std.specs.Map.{keys_of, lookup}
use Rattle.cell_addr.specs.Order.{place_cmp}
use Rattle.cell_addr.specs.Place.{covers}
use Rattle.cell_addr.specs.declared.place.Block.{Block}
use Rattle.cell_addr.specs.declared.place.Place.{Place}
use Rattle.cell_value.specs.declared.scalar.Scalar.{Scalar}
use Rattle.cell_value.specs.declared.scalar.Scalar.TheVariants.{Empty}

-- cells with their values
abbrev pub seen_cells : List (Place × Bor Scalar) → List (Place × Scalar)
seen_cells cells = map (λ cell. (cell.0, cell.1.now)) cells

-- the block covers each of the cells, and they stand in the order of their places
pub record AreFilled (b : Block) (cells : List (Place × Scalar)) : Type 0 where
  pub covered : All (λ cell. covers b cell.0 ≡ true) cells
  pub ordered : IsStrictlySortedBy place_cmp (keys_of cells)

-- what places show where these cells have their values, and all others are empty
abbrev pub shown_by : List (Place × Scalar) → Place → Scalar
shown_by cells p = unwrap_or (lookup (is_at (place_cmp p)) cells) Empty
