use Rattle.std.proofs.Common.{◌≡◌, drop}
use Rattle.grid_store.specs.Draft.{IsDraftOf, drafted}
use Rattle.grid_store.specs.Grid.{cells_of}
use Rattle.shift_line.specs.Track.{shift_at}
use Rattle.kept_book.specs.Kept.{changes_of}
use Rattle.kept_book.specs.internal.Stepping.{cells_forth}
use Rattle.kept_book.proofs.passing.step_forth.Given as goal

abbrev pub invariant-loop-part : goal.invariant-loop-part
invariant-loop-part l = record {
  cells : cells_forth (shift_at l.line) (changes_of (drop l.part-index l.parts)) (drafted l.grid l.draft) ≡ cells_forth (shift_at l.line) (changes_of l.parts) (cells_of l.fn.grid);
  of : IsDraftOf l.grid l.draft;
}
