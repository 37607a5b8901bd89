use Rattle.std.proofs.Common.{◌≡◌, ◌++◌, ◌<◌, ◌^◌, length, ◌+◌}
use Rattle.grid_store.specs.Grid.{items_of}
use Rattle.kept_book.specs.internal.Cells.{cells_given, trees_given}
use Rattle.kept_book.proofs.writing.numbered.Given as goal

abbrev pub invariant-loop-at : goal.invariant-loop-at
invariant-loop-at l =
    (items_of l.cells ++ cells_given l.id l.at-iterator.rest.items ≡ cells_given l.fn.first l.fn.given.items)
    × (l.trees.items ++ trees_given l.at-iterator.rest.items ≡ trees_given l.fn.given.items)
    × (l.id ≡ l.fn.first + length l.trees.items)
    × (l.id < 2 ^ 64)
