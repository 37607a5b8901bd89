use Rattle.std.proofs.Common.{◌≡◌, ◌∙◌, sym, ap, subst, ℕ, ◌<◌, None, Some, is_none}
use Rattle.cell_addr.specs.Axis.{with_span}
use Rattle.grid_store.specs.Grid.{HasAny, cells_of}
use Rattle.grid_store.specs.internal.Ways.{line_goes, span_has, whole}
use Rattle.grid_store.proofs.LostCells.{any_lost, none_any}
use Rattle.grid_store.proofs.RenewedCells.{seen_inside}
use Rattle.grid_store.proofs.grid.Grid.loses_any.Goals as goal

pub returns-in-None : goal.returns-in-None
returns-in-None _ c =
    let g = c.args.self.now in
    let lost = subst (λ n. (line : ℕ) → line < n → span_has None line ≡ is_none (line_goes c.args.way n c.args.edit line)) c.limit.ensures c.in-None.ensures.lost in
    (λ bad. cc, λ h. absurd (none_any c.args.way c.args.sheet c.args.axis c.args.edit (cells_of g) (seen_inside g.rows g.cols g.cells.entries g.rows_limit g.cols_limit) lost h))

pub returns-in-Some : goal.returns-in-Some
returns-in-Some _ c =
    let g = c.args.self.now in
    let lost = subst (λ n. (line : ℕ) → line < n → span_has (Some c.in-Some.span) line ≡ is_none (line_goes c.args.way n c.args.edit line)) c.limit.ensures c.in-Some.ensures.lost in
    let area : c.with_span.result ≡ with_span c.args.axis c.in-Some.span (whole c.args.sheet) = c.with_span.ensures ∙ ap (with_span c.args.axis c.in-Some.span) c.whole.ensures in
    let any = any_lost c.args.way c.args.sheet c.args.axis c.args.edit c.in-Some.span (cells_of g) (seen_inside g.rows g.cols g.cells.entries g.rows_limit g.cols_limit) lost in (
      λ t. any.0 (subst (λ b. HasAny b (cells_of g)) area (subst (HasAny c.with_span.result) c.view.ensures (c.has_any.ensures.0 t))),
      λ h. c.has_any.ensures.1 (subst (HasAny c.with_span.result) (sym c.view.ensures) (subst (λ b. HasAny b (cells_of g)) (sym area) (any.1 h))),
    )
