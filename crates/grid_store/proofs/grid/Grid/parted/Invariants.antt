use Rattle.std.proofs.Common.{◌≡◌, ◌++◌, filter, is_none, is_some}
use Rattle.std.specs.FinMap as map
use Rattle.grid_store.specs.Grid.{cells_of, items_of}
use Rattle.grid_store.proofs.grid.Grid.parted.Given as goal

abbrev pub invariant-loop-at : goal.invariant-loop-at
invariant-loop-at _ l = record {
  over : items_of l.over ++ filter (λ e. is_some (map.get (cells_of l.self) e.0)) l.at-iterator.rest.items ≡ filter (λ e. is_some (map.get (cells_of l.self) e.0)) (items_of l.fn.list);
  fresh : items_of l.fresh ++ filter (λ e. is_none (map.get (cells_of l.self) e.0)) l.at-iterator.rest.items ≡ filter (λ e. is_none (map.get (cells_of l.self) e.0)) (items_of l.fn.list);
}
