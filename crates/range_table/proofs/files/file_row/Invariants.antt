use Rattle.std.proofs.Common.{◌≡◌, ℕ, true, take}
use Rattle.block_index.specs.Index.{finds}
use Rattle.place_lines.specs.Spots.{in_runs}
use Rattle.range_table.specs.internal.Filed.{StillFind, in_run}
use Rattle.range_table.proofs.files.file_row.Given as goal

-- the cells of the runs gone by find the number
abbrev pub invariant-cols : goal.invariant-cols
invariant-cols l = record {
  still : StillFind l.initial.cells l.cells;
  found : (row col : ℕ) → in_run l.rows row ≡ true → in_runs (take l.run-index l.cols) col ≡ true → finds l.cells l.sheet row col l.number ≡ true;
}
