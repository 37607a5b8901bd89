use Rattle.std.proofs.Common.{◌≡◌, ◌||◌, drop}
use Rattle.std.specs.BTreeSet.{contains}
use Rattle.cell_addr.specs.Order.{place_cmp}
use Rattle.cell_addr.specs.declared.place.Place.{Place}
use Rattle.grid_store.specs.internal.Exchange.{is_among}
use Rattle.grid_store.proofs.exchange.set_of.Given as goal

abbrev pub invariant-loop-at : goal.invariant-loop-at
invariant-loop-at l = (q : Place) → (contains place_cmp l.set q || is_among (drop l.at-index l.places) q) ≡ is_among l.places q
