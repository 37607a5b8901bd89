-- What is placed over the emptied blocks is the moved map, with more cells over it.
use Rattle.std.proofs.Common.{◌∙◌, ◌++◌, sym, ap, subst, filter, filter_map, map, not}
use Rattle.std.specs.FinMap as fin
use Rattle.cell_addr.specs.Place.{IsInside, covers}
use Rattle.shift_core.specs.declared.form.Form.TheVariants.{Cells}
use Rattle.grid_store.specs.Grid.{cells_of, items_of, outside, with_entries, within, without_places}
use Rattle.grid_store.specs.internal.Lists.{AreEachInside, carried_entry}
use Rattle.grid_store.specs.internal.Ways.{form_goes, from_block, onto_block}
use Rattle.grid_store.proofs.CarriedCells.{lost_cells, moved_cells, targets_inside}
use Rattle.grid_store.proofs.Exchanges.{beside-entries, each-both, with-both, without-blocks}
use Rattle.grid_store.proofs.RenewedCells.{seen_inside}
use Rattle.grid_store.proofs.grid.Grid.carry_cells.Goals as goal

pub replace-requires : goal.replace-requires
replace-requires _ c =
    let g = c.args.self.now in
    let goes = form_goes c.args.way (Cells c.args.source c.args.to) in
    let taken = c.in_ok-moved.ensures ∙ ap (λ b. fin.entries (within b (cells_of g))) c.blocks-2.ensures.from in
    let placed = c.in_ok-placed.ensures ∙ ap (λ es. items_of c.args.more ++ filter_map (carried_entry goes) es) taken in
    subst AreEachInside (sym placed)
    (each-both (λ e. IsInside e.0) (items_of c.args.more) _ c.requires.inside
    (targets_inside c.args.way c.args.source c.args.to c.requires.sound (cells_of g) (seen_inside g.rows g.cols g.cells.entries g.rows_limit g.cols_limit)))

pub returns-clause-carried : goal.returns-clause-carried
returns-clause-carried _ c =
    let g = c.args.self.now in
    let m = cells_of g in
    let goes = form_goes c.args.way (Cells c.args.source c.args.to) in
    let from = from_block c.args.way c.args.source c.args.to in
    let onto = onto_block c.args.way c.args.source c.args.to in
    let taken = c.in_ok-moved.ensures ∙ ap (λ b. fin.entries (within b m)) c.blocks-2.ensures.from in
    let there = c.in_ok-there.ensures ∙ ap (λ b. fin.entries (within b m)) c.blocks-2.ensures.onto in
    let placed = c.in_ok-placed.ensures ∙ ap (λ es. items_of c.args.more ++ filter_map (carried_entry goes) es) taken in
    let emptied = c.deref.ensures.value ∙ c.in_ok-emptied.ensures ∙ (λ i. map (λ e. e.0) (taken i) ++ map (λ e. e.0) (there i)) in
    c.in_ok-replace.ensures.ok ∙ (λ i. with_entries (placed i) (without_places (emptied i) m))
    ∙ ap (with_entries (items_of c.args.more ++ filter_map (carried_entry goes) (fin.entries (within from m)))) (without-blocks from onto m)
    ∙ with-both (items_of c.args.more) (filter_map (carried_entry goes) (fin.entries (within from m))) (outside onto (outside from m))
    ∙ ap (with_entries (items_of c.args.more)) (moved_cells c.args.way c.args.source c.args.to c.requires.sound m (seen_inside g.rows g.cols g.cells.entries g.rows_limit g.cols_limit))

pub returns-clause-lost : goal.returns-clause-lost
returns-clause-lost _ c =
    let g = c.args.self.now in
    let m = cells_of g in
    let from = from_block c.args.way c.args.source c.args.to in
    let onto = onto_block c.args.way c.args.source c.args.to in
    let there = c.in_ok-there.ensures ∙ ap (λ b. fin.entries (within b m)) c.blocks-2.ensures.onto in
    c.in_ok-lost.ensures ∙ (λ i. filter (λ e. not (covers (c.blocks-2.ensures.from i) e.0)) (there i)) ∙ beside-entries from onto m
    ∙ lost_cells c.args.way c.args.source c.args.to c.requires.sound m (seen_inside g.rows g.cols g.cells.entries g.rows_limit g.cols_limit)
