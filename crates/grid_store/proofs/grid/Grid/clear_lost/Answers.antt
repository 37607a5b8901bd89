use Rattle.std.proofs.Common.{◌≡◌, ◌∙◌, sym, ap, subst, ℕ, ◌<◌, None, Some, is_none}
use Rattle.std.specs.FinMap as map
use Rattle.std.proofs.lemmas.Result.{IfOk-weaker, on_ok_weaker}
use Rattle.cell_addr.specs.Axis.{with_span}
use Rattle.grid_store.specs.Grid.{cells_of, outside, within}
use Rattle.grid_store.specs.internal.Ways.{line_goes, span_has, whole}
use Rattle.grid_store.proofs.LostCells.{all_kept, kept_outside, lost_within, nothing_lost}
use Rattle.grid_store.proofs.RenewedCells.{seen_inside}
use Rattle.grid_store.proofs.grid.Grid.clear_lost.Goals as goal

pub returns-in_ok-new-in-None-clause-lost : goal.returns-in_ok-new-in-None-clause-lost
returns-in_ok-new-in-None-clause-lost _ c =
    let g = c.args.self.now in
    let lost = subst (λ n. (line : ℕ) → line < n → span_has None line ≡ is_none (line_goes c.args.way n c.args.edit line)) c.limit.ensures c.in-None.ensures.lost in
    c.in_ok-new-in-None.ensures ∙ sym (nothing_lost c.args.way c.args.sheet c.args.axis c.args.edit (cells_of g) (seen_inside g.rows g.cols g.cells.entries g.rows_limit g.cols_limit) lost)

pub returns-in_ok-new-in-None-clause-kept : goal.returns-in_ok-new-in-None-clause-kept
returns-in_ok-new-in-None-clause-kept _ c =
    let g = c.args.self.now in
    let lost = subst (λ n. (line : ℕ) → line < n → span_has None line ≡ is_none (line_goes c.args.way n c.args.edit line)) c.limit.ensures c.in-None.ensures.lost in
    all_kept c.args.way c.args.sheet c.args.axis c.args.edit (cells_of g) (seen_inside g.rows g.cols g.cells.entries g.rows_limit g.cols_limit) lost

pub returns-in-Some-clause-lost : goal.returns-in-Some-clause-lost
returns-in-Some-clause-lost _ c =
    let g = c.args.self.now in
    let lost = subst (λ n. (line : ℕ) → line < n → span_has (Some c.in-Some.span) line ≡ is_none (line_goes c.args.way n c.args.edit line)) c.limit.ensures c.in-Some.ensures.lost in
    let area : c.with_span.result ≡ with_span c.args.axis c.in-Some.span (whole c.args.sheet) = c.with_span.ensures ∙ ap (with_span c.args.axis c.in-Some.span) c.whole.ensures in
    IfOk-weaker c.clear.result _ _ (λ list h. h ∙ ap (λ b. map.entries (within b (cells_of g))) area
    ∙ lost_within c.args.way c.args.sheet c.args.axis c.args.edit c.in-Some.span (cells_of g) (seen_inside g.rows g.cols g.cells.entries g.rows_limit g.cols_limit) lost) c.clear.ensures.removed

pub returns-in-Some-clause-kept : goal.returns-in-Some-clause-kept
returns-in-Some-clause-kept _ c =
    let g = c.args.self.now in
    let lost = subst (λ n. (line : ℕ) → line < n → span_has (Some c.in-Some.span) line ≡ is_none (line_goes c.args.way n c.args.edit line)) c.limit.ensures c.in-Some.ensures.lost in
    let area : c.with_span.result ≡ with_span c.args.axis c.in-Some.span (whole c.args.sheet) = c.with_span.ensures ∙ ap (with_span c.args.axis c.in-Some.span) c.whole.ensures in
    on_ok_weaker c.clear.result (λ h. h ∙ ap (λ b. outside b (cells_of g)) area
    ∙ kept_outside c.args.way c.args.sheet c.args.axis c.args.edit c.in-Some.span (cells_of g) (seen_inside g.rows g.cols g.cells.entries g.rows_limit g.cols_limit) lost) c.clear.ensures.cleared
