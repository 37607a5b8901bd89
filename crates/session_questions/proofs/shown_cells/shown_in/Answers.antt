use Rattle.std.proofs.Common.{◌∙◌, ap, refl, map}
use Rattle.std.proofs.lemmas.Result.{IfOk-weaker}
use Rattle.book_values.specs.Values.{value_of}
use Rattle.book_values.specs.Workbook.{place}
use Rattle.grid_store.specs.Grid.{cells_of, seen_items}
use Rattle.kept_book.specs.Frame.{numbered_at}
use Rattle.kept_book.specs.Kept.{at_of}
use Rattle.session_operations.specs.Following.{book_of}
use Rattle.session_questions.proofs.FilledPlaces.{places_listed}
use Rattle.session_questions.proofs.ShownCells.{listed_held, shown_places}
use Rattle.session_questions.proofs.shown_cells.shown_in.Goals as goal

pub returns : goal.returns
returns c customs today shows =
    let session = c.args.session.now in
    let b = session.book in
    let stands = numbered_at (at_of b) b.lazy.line.cursor in
    let items = c.deref.result.now in
    let listed = ap seen_items c.deref.ensures.value ∙ c.in_ok-cells.ensures in
    let held = listed_held c.args.area stands (cells_of b.grid) (book_of session) items refl listed in
    IfOk-weaker c.shown_each.result _ _ (λ list is.
    is ∙ shown_places (book_of session) customs today items
    ∙ ap (map (λ p. (p, value_of (book_of session) customs today (place p)))) (places_listed c.args.area stands (cells_of b.grid) items listed))
    (c.shown_each.ensures session customs today stands shows held)
