use Rattle.std.proofs.Common.{◌≡◌, length}
use Rattle.cell_addr.specs.declared.place.Place.{Place}
use Rattle.grid_store.specs.internal.Listing.{look_in}
use Rattle.grid_store.specs.internal.Lists.{or_else}
use Rattle.grid_store.proofs.found.by_place.Given as goal

abbrev pub invariant-loop-at : goal.invariant-loop-at
invariant-loop-at _ l = (q : Place) → or_else (look_in l.found.items q) (look_in l.map.entries q) ≡ look_in l.fn.found.items q

abbrev pub decreases-loop-at : goal.decreases-loop-at
decreases-loop-at _ l = length l.found.items
