use Rattle.std.proofs.Common.{◌≡◌, drop}
use Rattle.grid_store.specs.Draft.{drafted}
use Rattle.grid_store.specs.Grid.{without_places}
use Rattle.grid_store.specs.declared.grid.Grid.{Grid}
use Rattle.grid_store.specs.internal.Drafting.{KeepsBase}
use Rattle.grid_store.proofs.draft.Draft.empty.Given as goal

abbrev pub invariant-loop-at : goal.invariant-loop-at
invariant-loop-at _ l = record {
  made : (g : Grid _) → without_places (drop l.at-index l.places) (drafted g l.self) ≡ without_places l.places (drafted g l.fn.self);
  base : KeepsBase l.fn.self l.self;
}
