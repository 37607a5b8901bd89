use Rattle.std.proofs.Common.{◌∙◌, ap, subst, refl}
use Rattle.cell_value.specs.declared.fault.FaultKind.TheVariants.{Error}
use Rattle.cell_value.specs.declared.scalar.Scalar.TheVariants as scalar
use Rattle.grid_store.specs.declared.cell.Cell.TheVariants as cell
use Rattle.kept_book.specs.Stored.{content_of}
use Rattle.session_operations.specs.Following.{book_of}
use Rattle.session_questions.specs.internal.ShownCells.{Holds}
use Rattle.session_questions.proofs.ShownCells.{plain_shown}
use Rattle.session_questions.proofs.shown_cells.shown.Goals as goal

pub returns-in-Number : goal.returns-in-Number
returns-in-Number c session customs today stands shows held =
    let here = subst (Holds stands (book_of session) c.args.at) c.in-Number.is held in
    plain_shown (book_of session) customs today c.args.at (content_of stands (cell.Number c.in-Number.number)) (scalar.Number c.in-Number.number) here refl (λ w rules. refl)

pub returns-in-Truth : goal.returns-in-Truth
returns-in-Truth c session customs today stands shows held =
    let here = subst (Holds stands (book_of session) c.args.at) c.in-Truth.is held in
    plain_shown (book_of session) customs today c.args.at (content_of stands (cell.Truth c.in-Truth.truth)) (scalar.Truth c.in-Truth.truth) here refl (λ w rules. refl)

pub returns-in_ok-copy-in-Text : goal.returns-in_ok-copy-in-Text
returns-in_ok-copy-in-Text c session customs today stands shows held =
    let here = subst (Holds stands (book_of session) c.args.at) c.in-Text.is held in
    ap scalar.Text c.in_ok-copy-in-Text.ensures ∙ plain_shown (book_of session) customs today c.args.at (content_of stands (cell.Text c.in-Text.text)) (scalar.Text c.in-Text.text) here refl (λ w rules. refl)

pub returns-in-Formula : goal.returns-in-Formula
returns-in-Formula c session customs today stands shows held = c.shown.ensures session customs today shows

pub returns-in-Broken : goal.returns-in-Broken
returns-in-Broken c session customs today stands shows held =
    let here = subst (Holds stands (book_of session) c.args.at) c.in-Broken.is held in
    plain_shown (book_of session) customs today c.args.at (content_of stands (cell.Broken c.in-Broken.field-0)) (scalar.Fault Error) here refl (λ w rules. refl)
