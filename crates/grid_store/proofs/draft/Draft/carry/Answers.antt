-- A dropped sheet is emptied first.
use Rattle.std.proofs.Common.{◌∙◌, ap, map}
use Rattle.std.specs.FinMap as fin
use Rattle.std.proofs.lemmas.Result.{on_ok_weaker}
use Rattle.grid_store.specs.Draft.{drafted}
use Rattle.grid_store.specs.Grid.{items_of, with_entries, within, without_places}
use Rattle.grid_store.specs.internal.Ways.{carried_map, form_goes, whole}
use Rattle.grid_store.proofs.CarriedCells.{sheet_cleared}
use Rattle.grid_store.proofs.Drafts.{draft_kept, drafted_inside}
use Rattle.grid_store.proofs.Exchanges.{without-block}
use Rattle.grid_store.proofs.draft.Draft.carry.Goals as goal

pub returns-in_ok-emptied-in-Sheet-clause-carried : goal.returns-in_ok-emptied-in-Sheet-clause-carried
returns-in_ok-emptied-in-Sheet-clause-carried _ c =
    let g = c.args.grid.now in
    let d = c.args.self.now in
    let m = drafted g d in
    let way = c.args.way in
    let there = c.in_ok-there-in-Sheet.ensures ∙ ap (λ b. fin.entries (within b m)) c.whole.ensures in
    let emptied = c.deref.ensures.value ∙ c.in_ok-emptied-in-Sheet.ensures ∙ ap (map (λ e. e.0)) there in
    on_ok_weaker c.replace.result (λ made.
    made g ∙ ap (with_entries (items_of c.args.more)) (ap (λ ps. without_places ps m) emptied ∙ without-block (whole c.in-Sheet.sheet) m
    ∙ sheet_cleared way c.in-Sheet.sheet m (drafted_inside g d) ∙ ap (λ f. carried_map (form_goes way f) m) c.in-Sheet.ensures)) c.replace.ensures.ok

pub returns-in_ok-emptied-in-Sheet-clause-of : goal.returns-in_ok-emptied-in-Sheet-clause-of
returns-in_ok-emptied-in-Sheet-clause-of _ c = on_ok_weaker c.replace.result (λ made. draft_kept c.args.grid.now c.args.self.now c.replace.new.self c.replace.ensures.base c.requires.of) c.replace.ensures.ok

pub returns-in-Cells-clause-of : goal.returns-in-Cells-clause-of
returns-in-Cells-clause-of _ c = on_ok_weaker c.carry_cells.result (λ made. draft_kept c.args.grid.now c.args.self.now c.carry_cells.new.self c.carry_cells.ensures.base c.requires.of) c.carry_cells.ensures.carried
