-- What a kept cell holds.
use Rattle.std.specs.Prelude.{Bool, true, false, Option, Some}
use Rattle.grid_store.specs.declared.cell.Cell.{Cell}
use Rattle.grid_store.specs.declared.cell.Cell.TheVariants as cell

-- the cell holds a formula with a tree
abbrev pub holds_formula : Option Cell → Bool
holds_formula (Some (cell.Formula n)) = true
holds_formula c = false
