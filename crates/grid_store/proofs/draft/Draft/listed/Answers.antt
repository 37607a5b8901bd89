-- The changes of the block are laid over the cells of the grid that are seen in it.
use Rattle.std.proofs.Common.{◌≡◌, ◌∙◌, ap, cond, None}
use Rattle.std.specs.FinMap as fin
use Rattle.std.proofs.lemmas.Result.{IfOk-weaker}
use Rattle.cell_addr.specs.Place.{covers}
use Rattle.cell_addr.specs.declared.place.Place.{Place}
use Rattle.grid_store.specs.Draft.{carried_along, drafted}
use Rattle.grid_store.specs.Grid.{cells_of, seen_items}
use Rattle.grid_store.specs.internal.Listing.{look_in, shown}
use Rattle.grid_store.proofs.Drafts.{laid_found}
use Rattle.grid_store.proofs.Listings.{all_found, entries_found}
use Rattle.grid_store.proofs.draft.Draft.listed.Goals as goal

pub returns : goal.returns
returns _ c =
    let g = c.args.grid.now in
    let d = c.args.self.now in
    let area = c.args.area in
    let seen = c.in_ok-found.found in
    let found = c.lay_over.new.found in
    let there : (q : Place) → look_in seen.entries q ≡ cond (covers area q) (fin.get (carried_along g d) q) None = λ q.
    c.in_ok-found.ensures q ∙ all_found area (shown c.view.result) c.find.new.found c.in_ok-find.ensures.cells c.in_ok-find.ensures.rows q ∙ ap (λ m. cond (covers area q) (fin.get m q) None) c.view.ensures in
    let laid = laid_found area (cells_of d.changes) (carried_along g d) seen found _ c.in_ok-listed_refs.ensures there c.in_ok-lay_over.ensures in
    IfOk-weaker c.copies.result _ _ (λ copy h. h ∙ ap seen_items (c.deref.ensures.value ∙ c.in_ok-list.ensures.0) ∙ entries_found area (drafted g d) found.entries laid c.in_ok-list.ensures.1) c.copies.ensures
