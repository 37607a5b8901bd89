use Rattle.std.proofs.Common.{◌≡◌, ◌+◌, ◌-◌, ◌≤◌, map}
use Rattle.std.specs.List.{range_with_len}
use Rattle.cell_value.specs.Summary.{IsBounded}
use Rattle.range_table.specs.internal.Rows.{GoesOn}
use Rattle.range_table.proofs.merging.with_row.Given as goal

-- the cells before the column are in
abbrev pub invariant-cols : goal.invariant-cols
invariant-cols g l = record {
  goes_on : GoesOn l.fn.begun l.merged (map (λ col. g.C.ListedCells.values l.cells (record { sheet = l.b.sheet; row = l.fn.row; col = col })) (range_with_len l.b.left (l.col - l.b.left)));
  count : l.merged.summary.count ≤ l.fn.begun.summary.count + (l.col - l.b.left);
  cells : l.merged.cells ≤ l.fn.begun.cells + (l.col - l.b.left);
  bounded : IsBounded l.merged.summary;
  steps : l.steps + l.fn.begun.cells ≡ l.initial.steps + l.merged.cells;
  from : l.b.left ≤ l.col;
}
