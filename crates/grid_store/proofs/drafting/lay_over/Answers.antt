use Rattle.std.proofs.Common.{◌≡◌, ◌∙◌, sym, ap, ◌++◌, ◌∷◌, [], unwrap_or}
use Rattle.std.specs.FinMap.{find}
use Rattle.cell_addr.specs.Order.{place_cmp}
use Rattle.grid_store.specs.Grid.{seen_items}
use Rattle.grid_store.specs.internal.Listing.{look_in}
use Rattle.grid_store.proofs.Drafts.{laid_on}
use Rattle.grid_store.proofs.drafting.lay_over.Goals as goal

pub loop-at-preserved : goal.loop-at-preserved
loop-at-preserved _ c = λ q.
    let front = c.pop.new.self.items in
    let parts : c.loop-at.changes.items ≡ front ++ (c.in-Some.at, c.in-Some.change) ∷ [] = c.in-Some.ensures.items in
    laid_on front c.in-Some.at c.in-Some.change c.loop-at.found c.lay.new.found c.in_ok-lay.ensures q
    ∙ ap (λ es. unwrap_or (find place_cmp q (seen_items es)) (look_in c.loop-at.found.entries q)) (sym parts) ∙ c.loop-at.invariant q
