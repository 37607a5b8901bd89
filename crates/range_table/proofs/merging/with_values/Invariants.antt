use Rattle.std.proofs.Common.{◌≡◌, ◌+◌, ◌≤◌, take}
use Rattle.cell_value.specs.Summary.{IsBounded}
use Rattle.range_table.specs.Cells.{seen_values}
use Rattle.range_table.specs.internal.Rows.{GoesOn}
use Rattle.range_table.proofs.merging.with_values.Given as goal

-- the values so far are in
abbrev pub invariant-values : goal.invariant-values
invariant-values g l = record {
  goes_on : GoesOn l.fn.begun l.merged (take l.value-index (seen_values l.values));
  count : l.merged.summary.count ≤ l.fn.begun.summary.count + l.value-index;
  cells : l.merged.cells ≤ l.fn.begun.cells + l.value-index;
  bounded : IsBounded l.merged.summary;
  steps : l.steps + l.fn.begun.cells ≡ l.initial.steps + l.merged.cells;
}
