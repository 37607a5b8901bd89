-- The map that kept summaries stand for.
use Rattle.std.specs.FinMap as fin
use Rattle.std.specs.Global.{Box}
use Rattle.std.specs.Prelude.{ℕ, Option, Some, None}
use Rattle.cell_addr.specs.declared.place.Block.{Block}
use Rattle.cell_value.specs.declared.summary.Summary.{Summary}
use Rattle.range_table.specs.Blocks.{BlockMap}
use Rattle.range_table.specs.declared.kept.KeptSummaries.{KeptSummaries}
use Rattle.range_table.specs.internal.Files.{Finds, IsMore}
use Rattle.range_table.specs.internal.Tables as table
use Rattle.range_table.specs.internal.Tables.{IsUnder, map_in}

-- the summaries by their blocks
abbrev pub map_of : KeptSummaries → BlockMap Summary
map_of k = map_in k.table

-- none where nothing was kept yet
abbrev pub map_if : Option (Box KeptSummaries) → BlockMap Summary
map_if (Some k) = map_of k.value
map_if None = fin.empty

-- the block is found by the number
pub record HasNumber (k : KeptSummaries) (b : Block) (n : ℕ) : Type 0 where
  pub under : IsUnder k.table n b
  pub finds : Finds k.files k.table.lines b n

-- numbers were added and more is found; what was kept is kept still
pub record Grows (old new : KeptSummaries) : Type 0 where
  pub table : table.Grows old.table new.table
  pub files : IsMore old.files new.files
