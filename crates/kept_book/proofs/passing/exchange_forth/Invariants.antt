use Rattle.std.proofs.Common.{◌≡◌, take}
use Rattle.grid_store.specs.declared.cell.Cell.{Cell}
use Rattle.shift_core.specs.Maps.{PlaceMap}
use Rattle.shift_line.specs.Track.{shift_at}
use Rattle.kept_book.specs.Kept.{changes_of}
use Rattle.kept_book.specs.internal.Exchange.{IsPlacedInside, exchanged}
use Rattle.kept_book.specs.internal.Stepping.{cells_forth}
use Rattle.kept_book.proofs.passing.exchange_forth.Given as goal

abbrev pub invariant-loop-index : goal.invariant-loop-index
invariant-loop-index l = record {
  forth : (m : PlaceMap Cell) → exchanged l.exchange (cells_forth (shift_at l.line) (changes_of (take l.index l.parts)) m) ≡ cells_forth (shift_at l.line) (changes_of l.parts) m;
  inside : IsPlacedInside l.exchange;
}
