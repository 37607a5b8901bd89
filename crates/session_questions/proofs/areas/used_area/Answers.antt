use Rattle.std.proofs.Common.{◌∙◌, sym, ap, subst, None}
use Rattle.session_questions.specs.Areas.{IsUsedArea}
use Rattle.session_operations.specs.Seen.{state_of}
use Rattle.session_questions.specs.internal.Areas.{area_over}
use Rattle.session_questions.proofs.FilledPlaces.{used_area_is}
use Rattle.session_questions.proofs.areas.used_area.Goals as goal

pub returns : goal.returns
returns c =
    let b = (state_of c.args.parts.now).book in
    let found = c.in_ok-places.ensures in
    (found.0, subst (IsUsedArea c.args.sheet b) (sym (c.area_over.ensures ∙ ap (area_over None) (c.deref.ensures.value ∙ found.1))) (used_area_is c.args.sheet b))
