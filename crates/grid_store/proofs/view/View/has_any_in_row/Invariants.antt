use Rattle.std.proofs.Common.{◌+◌, ◌-◌}
use Rattle.grid_store.specs.internal.Listing.{LacksCols}
use Rattle.grid_store.proofs.view.View.has_any_in_row.Given as goal

abbrev pub invariant-loop-col : goal.invariant-loop-col
invariant-loop-col _ l = LacksCols l.self l.area l.fn.row 0 l.col

abbrev pub decreases-loop-col : goal.decreases-loop-col
decreases-loop-col _ l = l.area.right + 1 - l.col
