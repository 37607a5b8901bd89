use Rattle.std.proofs.Common.{◌≡◌, ◌++◌, filter_map}
use Rattle.grid_store.specs.Grid.{items_of, placed}
use Rattle.grid_store.proofs.grid.Grid.all.Given as goal

abbrev pub invariant-loop-key : goal.invariant-loop-key
invariant-loop-key _ l = items_of l.list ++ filter_map (placed l.self.rows l.self.cols) l.key-iterator ≡ filter_map (placed l.self.rows l.self.cols) l.self.cells.entries
