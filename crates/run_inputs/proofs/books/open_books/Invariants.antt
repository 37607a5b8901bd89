-- The sheets that were read so far, and the books that are left, come to what all books come to.
use Rattle.std.proofs.Common.{◌≡◌, ◌≤◌, [], drop, Some}
use Rattle.book_files.specs.Folder.{Files}
use Rattle.book_model.specs.Given.{given_sheets}
use Rattle.run_inputs.specs.Opening.{books_joined}
use Rattle.run_inputs.proofs.SheetsRead.{Standing}
use Rattle.run_inputs.proofs.books.open_books.Given as goal

abbrev pub invariant-books : goal.invariant-books
invariant-books g l = record {
  opens : (told : Files) → g.F.Folder.files l.fn.folder ≡ Some told → books_joined told (given_sheets l.sheets.items) (drop l.file-index l.files) ≡ books_joined told [] l.files;
  standing : Standing (given_sheets l.sheets.items) l.filled;
  later : g.F.Folder.faults l.fn.folder ≤ g.F.Folder.faults l.folder;
  stays : g.F.Folder.files l.folder ≡ g.F.Folder.files l.fn.folder;
}
