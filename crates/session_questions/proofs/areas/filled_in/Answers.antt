use Rattle.std.proofs.Common.{◌∙◌, ap}
use Rattle.cell_addr.specs.Place.{covers}
use Rattle.session_questions.specs.Areas.{filled_where}
use Rattle.session_operations.specs.Seen.{state_of}
use Rattle.session_questions.proofs.FilledPlaces.{places_of_sheet}
use Rattle.session_questions.proofs.areas.filled_in.Goals as goal

pub returns : goal.returns
returns c =
    let d = state_of c.args.parts.now in
    (c.in_ok-check_sheet.ensures, c.in_ok-places.ensures ∙ ap (λ a. filled_where (covers a) d.book) c.whole_sheet.ensures ∙ places_of_sheet d c.args.sheet c.requires)
