use Rattle.std.proofs.Common.{◌≡◌, ◌∙◌, sym, ap, subst, true, map}
use Rattle.std.specs.List.{All, filter_map}
use Rattle.std.specs.FinMap as fin
use Rattle.std.proofs.lemmas.Result.{IfOk-weaker, on_ok_weaker}
use Rattle.cell_addr.specs.Place.{IsInside, covers}
use Rattle.grid_store.specs.Grid.{cells_of, items_of, within, without_places}
use Rattle.shift_core.specs.Carried as carrying
use Rattle.kept_book.specs.Change.{places_of}
use Rattle.kept_book.specs.Frame.{numbered_at}
use Rattle.kept_book.specs.Kept.{at_of, workbook}
use Rattle.kept_book.specs.internal.Cells.{with_cells, with_given}
use Rattle.kept_book.specs.internal.Writing.{AreReplaced}
use Rattle.kept_book.proofs.Emptying.{entries_inside, within_inside}
use Rattle.kept_book.proofs.PastedBooks.{among-covered, item_pasted, pasted_whole, places-covered}
use Rattle.kept_book.proofs.SetCells.{block-emptied, block-replaced}
use Rattle.kept_book.proofs.ShiftedContents.{cells_inside}
use Rattle.kept_book.proofs.book.Book.paste.Goals as goal

pub write-requires-clause-inside : goal.write-requires-clause-inside
write-requires-clause-inside c =
    let d = carrying.destination c.args.area c.args.at in
    let cells = cells_of c.args.self.now.grid in
    let inside = cells_inside (numbered_at (at_of c.args.self.now) c.args.self.now.lazy.line.cursor) cells c.requires.inside in
    subst (All (λ e. IsInside e.0)) (sym (c.in_ok-replaced.ensures ∙ ap (λ e. fin.entries (within e cells)) c.destination.ensures)) (entries_inside (within d cells) (within_inside d cells inside))

pub write-requires-clause-replaced : goal.write-requires-clause-replaced
write-requires-clause-replaced c =
    let d = carrying.destination c.args.area c.args.at in
    let cells = cells_of c.args.self.now.grid in
    let given = c.in_ok-given.given.items in
    subst (λ l. AreReplaced cells l (map (λ e. e.0) given)) (sym (c.in_ok-replaced.ensures ∙ ap (λ e. fin.entries (within e cells)) c.destination.ensures))
    (block-replaced cells d (map (λ e. e.0) given) (λ q among. among-covered d given q c.in_ok-given.ensures.there among))

pub returns-clause-ok : goal.returns-clause-ok
returns-clause-ok c =
    let d = carrying.destination c.args.area c.args.at in
    let b = workbook c.args.self.now in
    let cells = cells_of c.args.self.now.grid in
    let one = numbered_at (at_of c.args.self.now) c.args.self.now.lazy.line.cursor in
    let listed_there = c.in_ok-replaced.ensures ∙ ap (λ e. fin.entries (within e cells)) c.destination.ensures in
    let left = ap (λ l. without_places (places_of l) b.cells) listed_there ∙ block-emptied one cells d in
    on_ok_weaker c.write.result (λ e. e ∙ ap (λ es. with_cells (with_given es (without_places (places_of (items_of c.in_ok-replaced.replaced)) b.cells)) b) c.in_ok-given.ensures.entries
    ∙ ap (λ m. with_cells (with_given (filter_map (item_pasted b.sheets c.args.area c.args.at) c.args.cells.now) m) b) left
    ∙ pasted_whole c.args.area c.args.cells.now c.args.at b c.requires.block) c.write.ensures.ok

pub returns-clause-written : goal.returns-clause-written
returns-clause-written c =
    let d = carrying.destination c.args.area c.args.at in
    IfOk-weaker c.write.result (λ part. places_of (items_of part.written) ≡ map (λ e. e.0) c.in_ok-given.given.items) (λ part. All (λ e. covers d e.0 ≡ true) (items_of part.written))
    (λ part same. places-covered d (items_of part.written) c.in_ok-given.given.items same c.in_ok-given.ensures.there) c.write.ensures.written
