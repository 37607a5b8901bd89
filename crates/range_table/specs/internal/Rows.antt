-- Blocks taken apart at their last row, and values merged one after another.
use Rattle.std.specs.Prelude.{◌≡◌, ◌+◌, ◌++◌, List, length, Some}
use Rattle.cell_addr.specs.declared.place.Block.{Block}
use Rattle.cell_addr.specs.declared.place.Place.{Place}
use Rattle.cell_value.specs.Summary.{summary_of}
use Rattle.cell_value.specs.declared.scalar.Scalar.{Scalar}
use Rattle.cell_value.specs.declared.summary.Summary.{Summary}
use Rattle.range_table.specs.Cells.{fold, nonempty}
use Rattle.range_table.specs.Table.{without_last_row}
use Rattle.range_table.specs.declared.merging.Merged.{Merged}

-- the summary is that of the block without its last row
abbrev pub Begins : (Place → Scalar) → Block → Summary → Type 0
Begins values b s = (rest : Block) × ((without_last_row b ≡ Some rest) × (s ≡ fold values rest))

-- values come after what was merged: the summary goes on over them, and those that aren't empty are as many cells more
pub record GoesOn (old new : Merged) (xs : List Scalar) : Type 0 where
  pub sums : (before : List Scalar) → old.summary ≡ summary_of before → new.summary ≡ summary_of (before ++ xs)
  pub cells : new.cells ≡ old.cells + length (nonempty xs)
