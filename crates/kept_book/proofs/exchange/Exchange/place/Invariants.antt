use Rattle.std.proofs.Common.{◌≡◌, ◌++◌, drop, filter, not}
use Rattle.std.specs.BTreeSet.{contains}
use Rattle.cell_addr.specs.Order.{place_cmp}
use Rattle.grid_store.specs.Grid.{items_of}
use Rattle.kept_book.proofs.exchange.Exchange.place.Given as goal

-- what is placed, with the cells to come, is what is placed in the end
abbrev pub invariant-loop-at : goal.invariant-loop-at
invariant-loop-at l = record {
  placed : items_of l.self.placed ++ filter (λ e. not (contains place_cmp l.fn.self.emptied e.0)) (drop l.at-index l.at-items)
      ≡ items_of l.fn.self.placed ++ filter (λ e. not (contains place_cmp l.fn.self.emptied e.0)) l.at-items;
  emptied : l.self.emptied ≡ l.fn.self.emptied;
}
