use Rattle.std.proofs.Common.{◌≡◌, ◌∙◌, ap, subst, IfOk}
use Rattle.calc_eval.specs.Filled.{seen_cells, shown_by}
use Rattle.calc_terms.specs.Cells.{cells_in}
use Rattle.recalc_core.proofs.seen.FormulaSightView.area.Goals as goal

pub returns : goal.returns
returns c =
    subst (λ x. IfOk c.filled_area.result (λ area. area ≡ x))
    (ap (λ xs. cells_in (shown_by (seen_cells xs)) c.args.block) c.deref.ensures.value ∙ c.in_ok-filled.ensures.shown)
    c.filled_area.ensures
