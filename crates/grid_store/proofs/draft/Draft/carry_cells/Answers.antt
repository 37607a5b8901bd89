-- What is placed over the emptied blocks is the moved map, with more cells over it.
use Rattle.std.proofs.Common.{◌∙◌, ◌++◌, sym, ap, subst, filter_map, map}
use Rattle.std.specs.FinMap as fin
use Rattle.std.proofs.lemmas.Result.{on_ok_weaker}
use Rattle.cell_addr.specs.Place.{IsInside}
use Rattle.shift_core.specs.declared.form.Form.TheVariants.{Cells}
use Rattle.grid_store.specs.Draft.{drafted}
use Rattle.grid_store.specs.Grid.{items_of, outside, with_entries, within, without_places}
use Rattle.grid_store.specs.internal.Lists.{AreEachInside, carried_entry}
use Rattle.grid_store.specs.internal.Ways.{form_goes, from_block, onto_block}
use Rattle.grid_store.proofs.CarriedCells.{moved_cells, targets_inside}
use Rattle.grid_store.proofs.Drafts.{drafted_inside}
use Rattle.grid_store.proofs.Exchanges.{each-both, with-both, without-blocks}
use Rattle.grid_store.proofs.draft.Draft.carry_cells.Goals as goal

pub replace-requires : goal.replace-requires
replace-requires _ c =
    let m = drafted c.args.grid.now c.args.self.now in
    let goes = form_goes c.args.way (Cells c.args.source c.args.to) in
    let taken = c.in_ok-moved.ensures ∙ ap (λ b. fin.entries (within b m)) c.blocks-2.ensures.from in
    let placed = c.in_ok-placed.ensures ∙ ap (λ es. items_of c.args.more ++ filter_map (carried_entry goes) es) taken in
    subst AreEachInside (sym placed)
    (each-both (λ e. IsInside e.0) (items_of c.args.more) _ c.requires.inside (targets_inside c.args.way c.args.source c.args.to c.requires.sound m (drafted_inside c.args.grid.now c.args.self.now)))

pub returns-clause-carried : goal.returns-clause-carried
returns-clause-carried _ c =
    let m = drafted c.args.grid.now c.args.self.now in
    let goes = form_goes c.args.way (Cells c.args.source c.args.to) in
    let from = from_block c.args.way c.args.source c.args.to in
    let onto = onto_block c.args.way c.args.source c.args.to in
    let taken = c.in_ok-moved.ensures ∙ ap (λ b. fin.entries (within b m)) c.blocks-2.ensures.from in
    let there = c.in_ok-there.ensures ∙ ap (λ b. fin.entries (within b m)) c.blocks-2.ensures.onto in
    let placed = c.in_ok-placed.ensures ∙ ap (λ es. items_of c.args.more ++ filter_map (carried_entry goes) es) taken in
    let emptied = c.deref.ensures.value ∙ c.in_ok-emptied.ensures ∙ (λ i. map (λ e. e.0) (taken i) ++ map (λ e. e.0) (there i)) in
    on_ok_weaker c.replace.result (λ made.
    made c.args.grid.now ∙ (λ i. with_entries (placed i) (without_places (emptied i) m))
    ∙ ap (with_entries (items_of c.args.more ++ filter_map (carried_entry goes) (fin.entries (within from m)))) (without-blocks from onto m)
    ∙ with-both (items_of c.args.more) (filter_map (carried_entry goes) (fin.entries (within from m))) (outside onto (outside from m))
    ∙ ap (with_entries (items_of c.args.more)) (moved_cells c.args.way c.args.source c.args.to c.requires.sound m (drafted_inside c.args.grid.now c.args.self.now))) c.replace.ensures.ok
