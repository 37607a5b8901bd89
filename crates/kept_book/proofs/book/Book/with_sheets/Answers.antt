use Rattle.std.proofs.Common.{◌∙◌, ap, arith, refl}
use Rattle.std.proofs.lemmas.List.{take_all}
use Rattle.name_table.specs.Listed.{listed}
use Rattle.kept_book.specs.Kept.{workbook}
use Rattle.kept_book.proofs.GivenBooks.{can_join_given, empty_workbook, joined}
use Rattle.kept_book.proofs.book.Book.with_sheets.Goals as goal

pub loop-number-init : goal.loop-number-init
loop-number-init c = record {
  book = c.in_ok-book.ensures.book;
  stand = c.in_ok-book.ensures.stand;
  shifts = c.in_ok-book.ensures.line.0;
  first = c.in_ok-book.ensures.line.1;
  cursor = c.in_ok-book.ensures.line.2;
}

pub add_sheet-requires-clause-joins : goal.add_sheet-requires-clause-joins
add_sheet-requires-clause-joins c =
    can_join_given c.args.books.now c.loop-number.number c.index-books-number.result c.loop-number.number (listed c.loop-number.book.names) c.as_str.result.now c.requires c.loop-number-test.true c.index-books-number.is
    refl (ap (λ d. d.sheets) c.loop-number.invariant.book) c.as_str.ensures

pub add_sheet-requires-clause-stand : goal.add_sheet-requires-clause-stand
add_sheet-requires-clause-stand c = c.loop-number.invariant.stand

pub loop-number-preserved : goal.loop-number-preserved
loop-number-preserved c = record {
  book = joined c.args.books.now c.loop-number.number c.index-books-number.result (workbook c.loop-number.book) (workbook c.add_sheet.new.self) c.loop-number.number c.as_str.result.now c.loop-number-test.true c.index-books-number.is
      c.loop-number.invariant.book refl c.as_str.ensures c.in_ok-add_sheet.ensures.ok;
  stand = c.in_ok-add_sheet.ensures.makes.stand;
  shifts = ap (λ s. s.line.shifts) c.add_sheet.ensures.lazy ∙ c.loop-number.invariant.shifts;
  first = ap (λ s. s.line.first) c.add_sheet.ensures.lazy ∙ c.loop-number.invariant.first;
  cursor = ap (λ s. s.line.cursor) c.add_sheet.ensures.lazy ∙ c.loop-number.invariant.cursor;
}

pub returns-clause-book : goal.returns-clause-book
returns-clause-book c = c.loop-number.invariant.book ∙ ap empty_workbook (take_all c.loop-number.number c.args.books.now (omega (arith, c.loop-number-test.false)))

pub returns-clause-stand : goal.returns-clause-stand
returns-clause-stand c = c.loop-number.invariant.stand
