use Rattle.std.proofs.Common.{◌≡◌, length}
use Rattle.grid_store.specs.Grid.{KeepsLines, cells_of, items_of, with_entries}
use Rattle.grid_store.specs.internal.Exchange.{AreFilled}
use Rattle.grid_store.specs.internal.Lists.{AreEachInside}
use Rattle.grid_store.proofs.grid.Grid.settle.Given as goal

abbrev pub invariant-loop-at : goal.invariant-loop-at
invariant-loop-at _ l = record {
  cells : with_entries (items_of l.list) (cells_of l.self) ≡ with_entries (items_of l.fn.list) (cells_of l.fn.self);
  inside : AreEachInside (items_of l.list);
  filled : AreFilled (items_of l.list) (cells_of l.self);
  lines : KeepsLines l.fn.self l.self;
}

abbrev pub decreases-loop-at : goal.decreases-loop-at
decreases-loop-at _ l = length (items_of l.list)
