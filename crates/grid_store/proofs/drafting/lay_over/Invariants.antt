use Rattle.std.proofs.Common.{◌≡◌, length, unwrap_or}
use Rattle.std.specs.FinMap.{find}
use Rattle.cell_addr.specs.Order.{place_cmp}
use Rattle.cell_addr.specs.declared.place.Place.{Place}
use Rattle.grid_store.specs.Grid.{seen_items}
use Rattle.grid_store.specs.internal.Listing.{look_in}
use Rattle.grid_store.proofs.drafting.lay_over.Given as goal

abbrev pub invariant-loop-at : goal.invariant-loop-at
invariant-loop-at _ l = (q : Place) → unwrap_or (find place_cmp q (seen_items l.changes.items)) (look_in l.found.entries q) ≡ unwrap_or (find place_cmp q (seen_items l.fn.changes.items)) (look_in l.initial.found.entries q)

abbrev pub decreases-loop-at : goal.decreases-loop-at
decreases-loop-at _ l = length l.changes.items
