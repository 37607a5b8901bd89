use Rattle.std.proofs.Common.{◌+◌, ◌-◌, ◌≤◌}
use Rattle.grid_store.specs.internal.Listing.{AreCellsOf, HasLines, StillHas, shown}
use Rattle.grid_store.proofs.view.View.find_along.Given as goal

abbrev pub invariant-loop-row : goal.invariant-loop-row
invariant-loop-row _ l = record {
  cells : AreCellsOf l.area (shown l.self) l.found;
  lines : HasLines l.self l.area l.fn.lines.to l.row l.found;
  still : StillHas l.initial.found l.found;
  from : l.fn.lines.to ≤ l.row;
  within : l.row ≤ l.fn.lines.to + l.fn.lines.count;
}

abbrev pub decreases-loop-row : goal.decreases-loop-row
decreases-loop-row _ l = l.fn.lines.to + l.fn.lines.count - l.row
