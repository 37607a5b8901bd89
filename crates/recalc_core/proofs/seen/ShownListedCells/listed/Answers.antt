use Rattle.std.proofs.Common.{◌≡◌, ◌∙◌, ap, subst, IfOk}
use Rattle.calc_eval.specs.Filled.{seen_cells}
use Rattle.range_table.specs.Cells.{nonempty, seen_values}
use Rattle.recalc_core.specs.internal.KeptValues.{kept_by}
use Rattle.recalc_core.specs.internal.Seen.{shown_at}
use Rattle.recalc_core.proofs.ListedValues.{listed_values, values_in, values_of}
use Rattle.recalc_core.proofs.seen.ShownListedCells.listed.Goals as goal

pub returns : goal.returns
returns c =
    subst (λ xs. IfOk c.nonempty.result (λ list. seen_values list.items ≡ xs))
    (ap (λ xs. nonempty (values_of xs)) c.deref.ensures.value
    ∙ listed_values c.args.b (seen_cells c.in_ok-kept.kept.items) c.in_ok-kept.ensures.filled
    ∙ ap (λ x. nonempty x.values) c.in_ok-kept.ensures.shown
    ∙ ap nonempty (values_in (shown_at (kept_by c.args.self.now.kept.now)) c.args.b))
    c.nonempty.ensures
