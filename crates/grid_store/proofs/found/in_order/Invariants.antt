use Rattle.std.proofs.Common.{◌≡◌, ◌++◌}
use Rattle.grid_store.proofs.found.in_order.Given as goal

abbrev pub invariant-loop-at : goal.invariant-loop-at
invariant-loop-at _ l = l.list.items ++ l.at-iterator ≡ l.fn.cells.entries
