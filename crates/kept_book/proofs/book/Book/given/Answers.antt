use Rattle.std.proofs.Common.{◌∙◌, ap}
use Rattle.book_model.specs.Given.{given_entries, given_sheets, numbered}
use Rattle.kept_book.specs.internal.Cells.{with_cells, with_given}
use Rattle.kept_book.proofs.GivenBooks.{empty_workbook, given-empty}
use Rattle.kept_book.proofs.book.Book.given.Goals as goal

pub returns-clause-book : goal.returns-clause-book
returns-clause-book c =
    let books = c.args.books.now in
    c.in_ok-fill_sheets.ensures.ok ∙ ap (λ d. with_cells (with_given (given_entries d.sheets 0 (given_sheets books)) d.cells) d) c.in_ok-book.ensures.book
    ∙ ap (λ m. with_cells m (empty_workbook books)) (given-empty (given_entries (numbered 0 (given_sheets books)) 0 (given_sheets books)))
