use Rattle.std.proofs.Common.{◌≡◌, length}
use Rattle.grid_store.specs.Draft.{drafted}
use Rattle.grid_store.specs.Grid.{items_of, with_entries}
use Rattle.grid_store.specs.declared.grid.Grid.{Grid}
use Rattle.grid_store.specs.internal.Drafting.{KeepsBase}
use Rattle.grid_store.specs.internal.Lists.{AreEachInside}
use Rattle.grid_store.proofs.draft.Draft.place.Given as goal

abbrev pub invariant-loop-at : goal.invariant-loop-at
invariant-loop-at _ l = record {
  made : (g : Grid _) → with_entries (items_of l.list) (drafted g l.self) ≡ with_entries (items_of l.fn.list) (drafted g l.fn.self);
  inside : AreEachInside (items_of l.list);
  base : KeepsBase l.fn.self l.self;
}

abbrev pub decreases-loop-at : goal.decreases-loop-at
decreases-loop-at _ l = length (items_of l.list)
