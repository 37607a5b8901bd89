use Rattle.std.proofs.Common.{◌≡◌, take}
use Rattle.grid_store.specs.Grid.{items_of}
use Rattle.kept_book.proofs.passing.copied.Given as goal

abbrev pub invariant-loop-at : goal.invariant-loop-at
invariant-loop-at l = items_of l.copy ≡ take l.at-index l.at-items
