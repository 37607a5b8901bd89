use Rattle.std.proofs.Common.{◌∙◌, ap, sym, subst}
use Rattle.std.proofs.lemmas.Option.{same_Some}
use Rattle.cell_addr.specs.Axis.{line_of}
use Rattle.shift_core.specs.Form.{IsWithin}
use Rattle.touch_index.specs.internal.Bands.{lost_span}
use Rattle.touch_index.proofs.Found.{on_ok}
use Rattle.touch_index.proofs.index.TouchIndex.find_lost.Goals as goal

pub returns-in-Some-clause-found : goal.returns-in-Some-clause-found
returns-in-Some-clause-found c = on_ok c.find_on.result _ _ c.find_on.ensures.found
    (λ found band is p n there sheet within.
    let same = same_Some band c.in-Some.lost (sym is ∙ sym (c.in-Some.ensures ∙ ap (λ l. lost_span l c.args.edit) c.limit.ensures)) in
    found p n there sheet (subst (λ s. IsWithin s (line_of c.args.axis p)) same within))
