use Rattle.std.proofs.Common.{◌≡◌, ◌++◌, filter, not}
use Rattle.cell_addr.specs.Place.{covers}
use Rattle.grid_store.specs.Grid.{items_of}
use Rattle.grid_store.proofs.moving.beside.Given as goal

abbrev pub invariant-loop-at : goal.invariant-loop-at
invariant-loop-at _ l = items_of l.kept ++ filter (λ e. not (covers l.fn.area e.0)) l.at-iterator.rest.items ≡ filter (λ e. not (covers l.fn.area e.0)) (items_of l.fn.list)
