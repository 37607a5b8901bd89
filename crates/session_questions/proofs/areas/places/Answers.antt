use Rattle.std.proofs.Common.{◌≡◌, ◌∙◌, ap, subst, map}
use Rattle.std.specs.Prelude.{IfOk}
use Rattle.grid_store.specs.Grid.{cells_of}
use Rattle.kept_book.specs.Frame.{numbered_at}
use Rattle.kept_book.specs.Kept.{at_of}
use Rattle.session_questions.proofs.FilledPlaces.{places_listed}
use Rattle.session_questions.proofs.areas.places.Goals as goal

pub returns : goal.returns
returns c =
    let b = c.args.parts.now.session.book in
    subst (λ ps. IfOk c.places_of.result (λ places. places.items ≡ ps))
    (ap (map (λ e. e.0)) c.deref.ensures.value ∙ places_listed c.args.area (numbered_at (at_of b) b.lazy.line.cursor) (cells_of b.grid) c.in_ok-cells.cells.items c.in_ok-cells.ensures)
    c.places_of.ensures
