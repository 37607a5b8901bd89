use Rattle.std.proofs.Common.{◌≡◌, [], take}
use Rattle.kept_book.specs.Kept.{IsStanding, workbook}
use Rattle.kept_book.proofs.GivenBooks.{empty_workbook}
use Rattle.kept_book.proofs.book.Book.with_sheets.Given as goal

abbrev pub invariant-loop-number : goal.invariant-loop-number
invariant-loop-number l = record {
  book : workbook l.book ≡ empty_workbook (take l.number l.books);
  stand : IsStanding l.book;
  shifts : l.book.lazy.line.shifts ≡ [];
  first : l.book.lazy.line.first ≡ 0;
  cursor : l.book.lazy.line.cursor ≡ 0;
}
