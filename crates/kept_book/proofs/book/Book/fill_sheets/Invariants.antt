use Rattle.std.proofs.Common.{◌≡◌}
use Rattle.shift_line.specs.Track.{with_spare}
use Rattle.kept_book.specs.Kept.{IsStanding, workbook}
use Rattle.kept_book.proofs.GivenBooks.{sheets_given_from}
use Rattle.kept_book.proofs.book.Book.fill_sheets.Given as goal

abbrev pub invariant-loop-number : goal.invariant-loop-number
invariant-loop-number l = record {
  book : workbook l.self ≡ sheets_given_from l.books l.number (workbook l.fn.self);
  stand : IsStanding l.self;
  line : l.self.lazy.line ≡ with_spare l.self.lazy.line.spare l.fn.self.lazy.line;
}
