use Rattle.std.proofs.Common.{◌≡◌, ◌≢◌, ◌∙◌, ◌==◌, ap, false, true, length, []}
use Rattle.book_model.specs.Changes.{with_content}
use Rattle.book_model.specs.Given.{place_on}
use Rattle.kept_book.specs.Kept.{workbook}
use Rattle.kept_book.specs.internal.Cells.{with_cells}
use Rattle.kept_book.proofs.GivenBooks.{given-text}
use Rattle.kept_book.proofs.book.Book.fill_given.Goals as goal

pub returns-clause-ok : goal.returns-clause-ok
returns-clause-ok c =
    let b = workbook c.args.self.now in
    let at = place_on c.args.sheet c.args.cell.now in
    let filled : c.args.cell.now.text ≢ [] = λ none. (let both : false ≡ true = c.if-is_empty.ensures ∙ ap (λ w. length w == 0) (c.as_str.ensures ∙ none) in cc) in
    c.in_ok-fill.ensures.ok ∙ ap (λ w. with_content at w b) c.as_str-2.ensures ∙ ap (λ m. with_cells m b) (given-text b.sheets at c.args.cell.now.text b.cells filled)
