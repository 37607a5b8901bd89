-- A dropped sheet's cells come to a sheet that is emptied first.
use Rattle.std.proofs.Common.{◌∙◌, ap, map}
use Rattle.std.specs.FinMap as fin
use Rattle.std.proofs.lemmas.Result.{on_ok_weaker}
use Rattle.grid_store.specs.Grid.{cells_of, items_of, with_entries, within, without_places}
use Rattle.grid_store.specs.declared.way.Going.TheVariants.{Back}
use Rattle.grid_store.specs.internal.Ways.{carried_map, form_goes, whole}
use Rattle.grid_store.proofs.CarriedCells.{sheet_cleared}
use Rattle.grid_store.proofs.Exchanges.{without-block}
use Rattle.grid_store.proofs.RenewedCells.{seen_inside}
use Rattle.grid_store.proofs.grid.Grid.restore.Goals as goal

pub returns-in_ok-emptied-in-Sheet-clause-restored : goal.returns-in_ok-emptied-in-Sheet-clause-restored
returns-in_ok-emptied-in-Sheet-clause-restored _ c =
    let g = c.args.self.now in
    let m = cells_of g in
    let there = c.in_ok-there-in-Sheet.ensures ∙ ap (λ b. fin.entries (within b m)) c.whole.ensures in
    let emptied = c.deref.ensures.value ∙ c.in_ok-emptied-in-Sheet.ensures ∙ ap (map (λ e. e.0)) there in
    on_ok_weaker c.replace.result (λ h.
    h ∙ ap (with_entries (items_of c.args.removed)) (ap (λ ps. without_places ps m) emptied ∙ without-block (whole c.in-Sheet.sheet) m
    ∙ sheet_cleared Back c.in-Sheet.sheet m (seen_inside g.rows g.cols g.cells.entries g.rows_limit g.cols_limit) ∙ ap (λ f. carried_map (form_goes Back f) m) c.in-Sheet.ensures)) c.replace.ensures.ok
