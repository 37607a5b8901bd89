use Rattle.std.proofs.Common.{◌≡◌, drop}
use Rattle.grid_store.specs.Grid.{KeepsLines, cells_of}
use Rattle.grid_store.specs.internal.Lists.{without}
use Rattle.grid_store.proofs.grid.Grid.empty.Given as goal

abbrev pub invariant-loop-at : goal.invariant-loop-at
invariant-loop-at _ l = record {
  cells : without (drop l.at-index l.list) (cells_of l.self) ≡ without l.list (cells_of l.fn.self);
  lines : KeepsLines l.fn.self l.self;
}
