use Rattle.std.proofs.Common.{◌≡◌, drop}
use Rattle.grid_store.specs.Grid.{KeepsLines, cells_of, without_places}
use Rattle.grid_store.proofs.grid.Grid.leave.Given as goal

abbrev pub invariant-loop-at : goal.invariant-loop-at
invariant-loop-at _ l = record {
  cells : without_places (drop l.at-index l.places) (cells_of l.self) ≡ without_places l.places (cells_of l.fn.self);
  lines : KeepsLines l.fn.self l.self;
}
