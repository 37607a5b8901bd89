use Rattle.std.proofs.Common.{◌≡◌}
use Rattle.shift_line.specs.Track.{with_spare}
use Rattle.kept_book.specs.Kept.{IsStanding, workbook}
use Rattle.kept_book.proofs.GivenBooks.{given_from}
use Rattle.kept_book.proofs.book.Book.fill_sheet.Given as goal

abbrev pub invariant-loop-index : goal.invariant-loop-index
invariant-loop-index l = record {
  book : workbook l.self ≡ given_from l.sheet l.cells l.index (workbook l.fn.self);
  stand : IsStanding l.self;
  line : l.self.lazy.line ≡ with_spare l.self.lazy.line.spare l.fn.self.lazy.line;
}
