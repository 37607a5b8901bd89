use Rattle.std.proofs.Common.{◌+◌, ◌-◌, ◌≤◌}
use Rattle.grid_store.specs.internal.Listing.{LacksLines}
use Rattle.grid_store.proofs.view.View.has_any_on.Given as goal

abbrev pub invariant-loop-line : goal.invariant-loop-line
invariant-loop-line _ l = record {
  lines : LacksLines l.self l.area l.fn.lines.to l.row;
  from : l.fn.lines.to ≤ l.row;
  within : l.row ≤ l.fn.lines.to + l.fn.lines.count;
}

abbrev pub decreases-loop-line : goal.decreases-loop-line
decreases-loop-line _ l = l.fn.lines.to + l.fn.lines.count - l.row
