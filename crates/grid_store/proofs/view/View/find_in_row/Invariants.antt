use Rattle.std.proofs.Common.{◌+◌, ◌-◌}
use Rattle.grid_store.specs.internal.Listing.{AreCellsOf, HasCols, StillHas, shown}
use Rattle.grid_store.proofs.view.View.find_in_row.Given as goal

abbrev pub invariant-loop-col : goal.invariant-loop-col
invariant-loop-col _ l = record {
  cells : AreCellsOf l.area (shown l.self) l.found;
  cols : HasCols l.self l.area l.fn.row 0 l.col l.found;
  still : StillHas l.initial.found l.found;
}

abbrev pub decreases-loop-col : goal.decreases-loop-col
decreases-loop-col _ l = l.area.right + 1 - l.col
