use Rattle.kept_book.proofs.NewBooks.{new-book, new-stands}
use Rattle.kept_book.proofs.book.Book.new.Goals as goal

pub returns-clause-book : goal.returns-clause-book
returns-clause-book c = new-book c.in_ok-new.field-0 c.in_ok-new-2.field-0 c.in_ok-new-3.field-0 c.in_ok-new-2.ensures c.in_ok-new-3.ensures.names c.in_ok-new-3.ensures.sheets

pub returns-clause-stand : goal.returns-clause-stand
returns-clause-stand c = new-stands c.in_ok-new.field-0 c.in_ok-new-2.field-0 c.in_ok-new-3.field-0 c.in_ok-new-2.ensures c.in_ok-new-3.ensures.names
