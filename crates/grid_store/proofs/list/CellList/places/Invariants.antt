use Rattle.std.proofs.Common.{◌≡◌, ◌++◌, drop, map}
use Rattle.grid_store.proofs.list.CellList.places.Given as goal

abbrev pub invariant-loop-at : goal.invariant-loop-at
invariant-loop-at _ l = l.places.items ++ map (λ e. e.0) (drop l.at-index l.at-items) ≡ map (λ e. e.0) l.at-items
