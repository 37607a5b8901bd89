use Rattle.std.proofs.Common.{◌≡◌, take}
use Rattle.range_table.specs.Cells.{nonempty, seen_values}
use Rattle.recalc_core.proofs.ListedValues.{values_of}
use Rattle.recalc_core.proofs.seen.nonempty.Given as goal

-- the values so far are listed, but the empty ones
abbrev pub invariant-cells : goal.invariant-cells
invariant-cells l = seen_values l.list.items ≡ nonempty (take l.cell-index (values_of l.cells))
