use Rattle.std.proofs.Common.{◌∙◌, ap}
use Rattle.book_model.specs.Changes.{with_given_content}
use Rattle.kept_book.specs.Kept.{workbook}
use Rattle.kept_book.proofs.book.Book.fill.Goals as goal

pub returns-clause-ok : goal.returns-clause-ok
returns-clause-ok c = c.in_ok-part.ensures.ok ∙ ap (λ said. with_given_content c.args.at said (workbook c.args.self.now)) c.in_ok-content.ensures
