use Rattle.std.proofs.Common.{◌≡◌, take}
use Rattle.std.specs.List.{filter_map}
use Rattle.grid_store.specs.Grid.{cells_of, items_of}
use Rattle.kept_book.specs.internal.Cells.{stood_at}
use Rattle.kept_book.proofs.setting.replaced_all.Given as goal

abbrev pub invariant-loop-at : goal.invariant-loop-at
invariant-loop-at l = items_of l.list ≡ filter_map (stood_at (cells_of l.grid)) (take l.at-index l.cells)
