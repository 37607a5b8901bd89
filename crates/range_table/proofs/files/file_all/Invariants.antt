use Rattle.std.proofs.Common.{◌≡◌, ℕ, true, take}
use Rattle.block_index.specs.Index.{finds}
use Rattle.place_lines.specs.Spots.{in_runs}
use Rattle.range_table.specs.internal.Filed.{StillFind}
use Rattle.range_table.proofs.files.file_all.Given as goal

-- the cells of the runs gone by find the number
abbrev pub invariant-rows : goal.invariant-rows
invariant-rows l = record {
  still : StillFind l.initial.cells l.cells;
  found : (row col : ℕ) → in_runs (take l.run-index l.rows) row ≡ true → in_runs l.cols col ≡ true → finds l.cells l.sheet row col l.number ≡ true;
}
