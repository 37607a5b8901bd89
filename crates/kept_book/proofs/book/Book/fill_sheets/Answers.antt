use Rattle.std.proofs.Common.{◌≡◌, ◌∙◌, ◌-◌, ◌+◌, sym, ap, refl, subst, arith}
use Rattle.std.specs.List.{All}
use Rattle.book_model.specs.Given.{IsGivenCell}
use Rattle.shift_line.specs.Track.{with_spare}
use Rattle.kept_book.specs.Kept.{workbook}
use Rattle.kept_book.proofs.GivenBooks.{given_cells, sheets_given_from, sheets_given_none, sheets_given_one}
use Rattle.kept_book.proofs.book.Book.fill_sheets.Goals as goal

pub loop-number-init : goal.loop-number-init
loop-number-init c = record { book = sheets_given_none c.args.books.now (workbook c.args.self.now); stand = c.requires.stand; line = refl }

pub fill_sheet-requires-clause-cells : goal.fill_sheet-requires-clause-cells
fill_sheet-requires-clause-cells c =
    let b = c.index-books-number.result in
    subst (All IsGivenCell) (sym (c.items.ensures ∙ ap (λ b. b.cells.list.items) (sym c.index-books-number.is)))
    (given_cells c.args.books.now (c.loop-number.number - 1) b c.requires.can (omega (arith, c.loop-number-test.true, c.loop-number.auto.number)) c.index-books-number.is)

pub fill_sheet-requires-clause-stand : goal.fill_sheet-requires-clause-stand
fill_sheet-requires-clause-stand c = c.loop-number.invariant.stand

pub loop-number-preserved : goal.loop-number-preserved
loop-number-preserved c =
    let d = workbook c.args.self.now in
    let i = c.loop-number.number - 1 in
    let last : i + 1 ≡ c.loop-number.number = omega (arith, c.loop-number-test.true) in
    record {
      book = sheets_given_one c.args.books.now i c.index-books-number.result c.items.result.now d (workbook c.loop-number.self) (workbook c.fill_sheet.new.self)
          (omega (arith, c.loop-number-test.true, c.loop-number.auto.number)) c.index-books-number.is (c.items.ensures ∙ ap (λ b. b.cells.list.items) (sym c.index-books-number.is))
          (c.loop-number.invariant.book ∙ ap (λ k. sheets_given_from c.args.books.now k d) (sym last)) c.in_ok-fill_sheet.ensures.ok;
      stand = c.in_ok-fill_sheet.ensures.stand;
      line = c.fill_sheet.ensures.line ∙ ap (with_spare c.fill_sheet.new.self.lazy.line.spare) c.loop-number.invariant.line;
    }

pub returns-clause-ok : goal.returns-clause-ok
returns-clause-ok c =
    let first : c.loop-number.number ≡ 0 = omega (arith, c.loop-number-test.false) in
    c.loop-number.invariant.book ∙ ap (λ k. sheets_given_from c.args.books.now k (workbook c.args.self.now)) first

pub returns-clause-stand : goal.returns-clause-stand
returns-clause-stand c = c.loop-number.invariant.stand

pub returns-clause-line : goal.returns-clause-line
returns-clause-line c = c.loop-number.invariant.line

pub returns-in_err-fill_sheet-clause-line : goal.returns-in_err-fill_sheet-clause-line
returns-in_err-fill_sheet-clause-line c = c.fill_sheet.ensures.line ∙ ap (with_spare c.fill_sheet.new.self.lazy.line.spare) c.loop-number.invariant.line
