use Rattle.std.proofs.Common.{◌≡◌, drop}
use Rattle.grid_store.specs.declared.cell.Cell.{Cell}
use Rattle.shift_core.specs.Maps.{PlaceMap}
use Rattle.shift_line.specs.Track.{shift_at}
use Rattle.kept_book.specs.Kept.{changes_of}
use Rattle.kept_book.specs.internal.Exchange.{IsPlacedInside, exchanged}
use Rattle.kept_book.specs.internal.Stepping.{cells_back}
use Rattle.kept_book.proofs.passing.exchange_back.Given as goal

abbrev pub invariant-loop-part : goal.invariant-loop-part
invariant-loop-part l = record {
  back : (m : PlaceMap Cell) → exchanged l.exchange (cells_back (shift_at l.line) (changes_of (drop l.part-index l.parts)) m) ≡ cells_back (shift_at l.line) (changes_of l.parts) m;
  inside : IsPlacedInside l.exchange;
}
