use Rattle.std.proofs.Common.{◌≡◌, length, true}
use Rattle.cell_addr.specs.declared.place.Place.{Place}
use Rattle.grid_store.specs.Grid.{KeepsLines, cells_of, items_of, with_entries}
use Rattle.grid_store.specs.internal.Exchange.{HasSame, is_among, places_of}
use Rattle.grid_store.specs.internal.Lists.{AreEachInside}
use Rattle.grid_store.proofs.grid.Grid.put_all.Given as goal

abbrev pub invariant-loop-at : goal.invariant-loop-at
invariant-loop-at _ l = record {
  cells : with_entries (items_of l.list) (cells_of l.self) ≡ with_entries (items_of l.fn.list) (cells_of l.fn.self);
  inside : AreEachInside (items_of l.list);
  among : (q : Place) → is_among (places_of (items_of l.list)) q ≡ true → is_among (places_of (items_of l.fn.list)) q ≡ true;
  others : HasSame (places_of (items_of l.fn.list)) (cells_of l.fn.self) (cells_of l.self);
  lines : KeepsLines l.fn.self l.self;
}

abbrev pub decreases-loop-at : goal.decreases-loop-at
decreases-loop-at _ l = length (items_of l.list)
