use Rattle.std.proofs.Common.{◌∙◌, ap}
use Rattle.std.specs.FinMap as map
use Rattle.std.proofs.lemmas.Result.{IfOk-weaker, on_ok_weaker}
use Rattle.grid_store.specs.Grid.{cells_of, outside, within}
use Rattle.grid_store.specs.declared.way.Going.TheVariants.{Forth}
use Rattle.grid_store.specs.internal.Ways.{carried_map, form_goes, lost_by}
use Rattle.grid_store.proofs.CarriedCells.{sheet_cleared, sheet_lost}
use Rattle.grid_store.proofs.RenewedCells.{seen_inside}
use Rattle.grid_store.proofs.grid.Grid.apply.Goals as goal

pub returns-in-Sheet-clause-moved : goal.returns-in-Sheet-clause-moved
returns-in-Sheet-clause-moved _ c =
    let g = c.args.self.now in
    on_ok_weaker c.clear.result (λ h. h ∙ ap (λ b. outside b (cells_of g)) c.whole.ensures ∙ sheet_cleared Forth c.in-Sheet.sheet (cells_of g) (seen_inside g.rows g.cols g.cells.entries g.rows_limit g.cols_limit)
    ∙ ap (λ f. carried_map (form_goes Forth f) (cells_of g)) c.in-Sheet.ensures) c.clear.ensures.cleared

pub returns-in-Sheet-clause-removed : goal.returns-in-Sheet-clause-removed
returns-in-Sheet-clause-removed _ c =
    let g = c.args.self.now in
    IfOk-weaker c.clear.result _ _ (λ list h. h ∙ ap (λ b. map.entries (within b (cells_of g))) c.whole.ensures ∙ sheet_lost Forth c.in-Sheet.sheet (cells_of g) (seen_inside g.rows g.cols g.cells.entries g.rows_limit g.cols_limit)
    ∙ ap (λ f. lost_by (form_goes Forth f) (cells_of g)) c.in-Sheet.ensures) c.clear.ensures.removed
