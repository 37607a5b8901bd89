use Rattle.std.proofs.Common.{◌+◌, ◌-◌}
use Rattle.grid_store.specs.internal.Listing.{LacksColumns, shown}
use Rattle.grid_store.proofs.view.View.has_any_by_cols.Given as goal

abbrev pub invariant-loop-col : goal.invariant-loop-col
invariant-loop-col _ l = LacksColumns l.area (shown l.self) 0 l.col

abbrev pub decreases-loop-col : goal.decreases-loop-col
decreases-loop-col _ l = l.area.right + 1 - l.col
