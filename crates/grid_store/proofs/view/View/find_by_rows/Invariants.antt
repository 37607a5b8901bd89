use Rattle.std.proofs.Common.{◌+◌, ◌-◌}
use Rattle.grid_store.specs.internal.Listing.{AreCellsOf, HasRows, shown}
use Rattle.grid_store.proofs.view.View.find_by_rows.Given as goal

abbrev pub invariant-loop-row : goal.invariant-loop-row
invariant-loop-row _ l = record {
  cells : AreCellsOf l.area (shown l.self) l.found;
  rows : HasRows l.area (shown l.self) 0 l.row l.found;
}

abbrev pub decreases-loop-row : goal.decreases-loop-row
decreases-loop-row _ l = l.area.bottom + 1 - l.row
