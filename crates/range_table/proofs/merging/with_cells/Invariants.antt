use Rattle.std.proofs.Common.{◌≡◌, ◌+◌, ◌-◌, ◌*◌, ◌≤◌}
use Rattle.std.specs.List.{flat_map, range_with_len}
use Rattle.cell_addr.specs.Place.{width}
use Rattle.cell_value.specs.Summary.{IsBounded}
use Rattle.range_table.specs.Cells.{row_values}
use Rattle.range_table.specs.internal.Rows.{GoesOn}
use Rattle.range_table.proofs.merging.with_cells.Given as goal

-- the rows before the row are in
abbrev pub invariant-rows : goal.invariant-rows
invariant-rows g l = record {
  goes_on : GoesOn l.fn.begun l.merged (flat_map (row_values (g.C.ListedCells.values l.cells) l.b) (range_with_len l.b.top (l.row - l.b.top)));
  count : l.merged.summary.count ≤ l.fn.begun.summary.count + (l.row - l.b.top) * width l.b;
  cells : l.merged.cells ≤ l.fn.begun.cells + (l.row - l.b.top) * width l.b;
  bounded : IsBounded l.merged.summary;
  steps : l.steps + l.fn.begun.cells ≡ l.initial.steps + l.merged.cells;
  from : l.b.top ≤ l.row;
}
