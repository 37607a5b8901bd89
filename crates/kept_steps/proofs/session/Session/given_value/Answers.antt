use Rattle.std.proofs.Common.{◌∙◌, sym, ap, subst}
use Rattle.book_model.specs.Answers.{valued}
use Rattle.book_values.specs.Workbook.{content_tree}
use Rattle.book_values.specs.Workbook as seen
use Rattle.grid_store.specs.Grid.{cells_of}
use Rattle.kept_book.proofs.Contents.{get-contents}
use Rattle.kept_book.specs.Frame.{numbered_at}
use Rattle.kept_book.specs.Kept.{at_of, id_of}
use Rattle.recalc_core.specs.Given.{HasGiven}
use Rattle.kept_steps.specs.Session.{state_of}
use Rattle.kept_steps.specs.internal.GivenCell.{given_plain}
use Rattle.kept_steps.proofs.GivenNodes.{no-id, on-ok, plain-given}
use Rattle.kept_steps.proofs.session.Session.given_value.Goals as goal

pub given_plain-requires : goal.given_plain-requires
given_plain-requires c =
    let b = c.args.self.now.book in
    let stands = numbered_at (at_of b) b.lazy.line.cursor in
    ap id_of c.cell.ensures ∙ no-id stands _ (ap content_tree (sym (get-contents stands (cells_of b.grid) c.args.at)) ∙ c.requires)

pub returns : goal.returns
returns c =
    let b = c.args.self.now.book in
    let stands = numbered_at (at_of b) b.lazy.line.cursor in
    let none = no-id stands _ (ap content_tree (sym (get-contents stands (cells_of b.grid) c.args.at)) ∙ c.requires) in
    let given = plain-given (valued (state_of c.args.self.now).book) stands c.args.at _ (get-contents stands (cells_of b.grid) c.args.at) none in
    on-ok c.given_plain.result (HasGiven (valued (state_of c.args.self.now).book) (seen.place c.args.at)) _
    (subst (λ r. HasGiven (valued (state_of c.args.self.now).book) (seen.place c.args.at) (given_plain r)) (sym c.cell.ensures) given) c.given_plain.ensures
