-- What is kept under one number, kept in a copy too.
use Rattle.std.specs.Prelude.{Option, Some, None}
use Rattle.std.specs.FinMap as map
use Rattle.cell_addr.specs.declared.place.Block.{Block}
use Rattle.cell_value.specs.declared.summary.Summary.{Summary}
use Rattle.range_table.specs.Blocks.{BlockMap}

-- the map with a block more and its summary, where there is one
abbrev pub with_kept : Option (Block × Summary) → BlockMap Summary → BlockMap Summary
with_kept (Some e) m = map.insert m e.0 e.1
with_kept None m = m
