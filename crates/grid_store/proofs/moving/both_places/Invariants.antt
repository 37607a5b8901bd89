use Rattle.std.proofs.Common.{◌≡◌, ◌++◌, drop, map}
use Rattle.grid_store.specs.Grid.{items_of}
use Rattle.grid_store.proofs.moving.both_places.Given as goal

abbrev pub invariant-loop-at : goal.invariant-loop-at
invariant-loop-at _ l = l.places.items ++ map (λ e. e.0) (drop l.at-index l.at-items) ≡ map (λ e. e.0) (items_of l.first) ++ map (λ e. e.0) (items_of l.second)
