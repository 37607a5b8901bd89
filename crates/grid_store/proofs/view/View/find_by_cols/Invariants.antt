use Rattle.std.proofs.Common.{◌+◌, ◌-◌}
use Rattle.grid_store.specs.internal.Listing.{AreCellsOf, HasColumns, shown}
use Rattle.grid_store.proofs.view.View.find_by_cols.Given as goal

abbrev pub invariant-loop-col : goal.invariant-loop-col
invariant-loop-col _ l = record {
  cells : AreCellsOf l.area (shown l.self) l.found;
  columns : HasColumns l.area (shown l.self) 0 l.col l.found;
}

abbrev pub decreases-loop-col : goal.decreases-loop-col
decreases-loop-col _ l = l.area.right + 1 - l.col
