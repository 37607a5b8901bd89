use Rattle.std.proofs.Common.{◌≡◌, take}
use Rattle.grid_store.specs.Grid.{items_of, seen_items}
use Rattle.grid_store.proofs.listing.copies.Given as goal

-- the cells gone by are copied
abbrev pub invariant-loop-at : goal.invariant-loop-at
invariant-loop-at _ l = items_of l.list ≡ seen_items (take l.at-index l.cells)
