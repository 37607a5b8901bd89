use Rattle.std.proofs.Common.{◌≡◌, ◌||◌, drop}
use Rattle.std.specs.BTreeSet.{contains}
use Rattle.cell_addr.specs.Order.{place_cmp}
use Rattle.cell_addr.specs.declared.place.Place.{Place}
use Rattle.grid_store.specs.internal.Exchange.{is_among}
use Rattle.kept_book.specs.Change.{places_of}
use Rattle.kept_book.proofs.exchange.Exchange.empty.Given as goal

-- what is emptied, with the cells to come, is what is emptied in the end
abbrev pub invariant-loop-at : goal.invariant-loop-at
invariant-loop-at l = record {
  emptied : (q : Place) → (contains place_cmp l.self.emptied q || is_among (places_of (drop l.at-index l.at-items)) q) ≡ (contains place_cmp l.fn.self.emptied q || is_among (places_of l.at-items) q);
  placed : l.self.placed ≡ l.fn.self.placed;
}
