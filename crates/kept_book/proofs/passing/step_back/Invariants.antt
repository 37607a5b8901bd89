use Rattle.std.proofs.Common.{◌≡◌, drop}
use Rattle.grid_store.specs.Draft.{IsDraftOf, drafted}
use Rattle.grid_store.specs.Grid.{cells_of}
use Rattle.shift_line.specs.Track.{shift_at}
use Rattle.kept_book.specs.Kept.{changes_of}
use Rattle.kept_book.specs.internal.Stepping.{cells_back}
use Rattle.kept_book.proofs.passing.step_back.Given as goal

abbrev pub invariant-loop-index : goal.invariant-loop-index
invariant-loop-index l = record {
  cells : drafted l.grid l.draft ≡ cells_back (shift_at l.line) (changes_of (drop l.index l.parts)) (cells_of l.fn.grid);
  of : IsDraftOf l.grid l.draft;
}
