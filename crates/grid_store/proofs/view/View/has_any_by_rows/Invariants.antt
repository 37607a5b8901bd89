use Rattle.std.proofs.Common.{◌+◌, ◌-◌}
use Rattle.grid_store.specs.internal.Listing.{HasNone, shown}
use Rattle.grid_store.proofs.view.View.has_any_by_rows.Given as goal

abbrev pub invariant-loop-row : goal.invariant-loop-row
invariant-loop-row _ l = HasNone l.area (shown l.self) 0 l.row

abbrev pub decreases-loop-row : goal.decreases-loop-row
decreases-loop-row _ l = l.area.bottom + 1 - l.row
