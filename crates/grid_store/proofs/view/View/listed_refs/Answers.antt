use Rattle.std.proofs.Common.{◌∙◌}
use Rattle.std.proofs.lemmas.Result.{IfOk-weaker}
use Rattle.grid_store.specs.internal.Listing.{shown}
use Rattle.grid_store.proofs.Listings.{all_found, entries_found}
use Rattle.grid_store.proofs.view.View.listed_refs.Goals as goal

pub returns : goal.returns
returns _ c =
    let m = shown c.args.self.now in
    let there = all_found c.args.area m c.find.new.found c.in_ok-find.ensures.cells c.in_ok-find.ensures.rows in
    IfOk-weaker c.ordered.result _ _ (λ list h. entries_found c.args.area m list.items (λ q. h.0 q ∙ there q) h.1) c.ordered.ensures
