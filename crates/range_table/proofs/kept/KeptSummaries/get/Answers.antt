use Rattle.std.proofs.Common.{◌≡◌, ◌∙◌, ap, false, refl, Some, subst}
use Rattle.std.specs.Prelude.{slice_get}
use Rattle.std.specs.List.{list_any}
use Rattle.place_lines.specs.declared.area.LineArea.{LineArea}
use Rattle.range_table.specs.internal.States.{same_area, summary_in}
use Rattle.range_table.proofs.Numbers.{its_summary, no_summary}
use Rattle.range_table.proofs.kept.KeptSummaries.get.Goals as goal

pub returns-in-Some-clause-kept : goal.returns-in-Some-clause-kept
returns-in-Some-clause-kept c =
    let k = c.args.self.now in
    c.summary.ensures ∙ (ap summary_in c.state.ensures
    ∙ its_summary k.table k.files c.args.b c.in-Some.number k.stands k.found (subst (λ (a : LineArea). slice_get k.table.keys.keys c.in-Some.number ≡ Some a) c.area.ensures c.in-Some.ensures.found))

pub returns-in-None-clause-kept : goal.returns-in-None-clause-kept
returns-in-None-clause-kept c =
    let k = c.args.self.now in
    no_summary k.table k.files c.args.b k.stands k.found (subst (λ (a : LineArea). list_any (same_area a) k.table.keys.keys ≡ false) c.area.ensures (c.in-None.ensures.absent refl))
