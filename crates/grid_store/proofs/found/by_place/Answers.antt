use Rattle.std.proofs.Common.{◌≡◌, ◌∙◌, sym, ap, ◌++◌, ◌∷◌, []}
use Rattle.grid_store.specs.internal.Listing.{look_in}
use Rattle.grid_store.specs.internal.Lists.{or_else}
use Rattle.grid_store.proofs.FoundCells.{last_laid}
use Rattle.grid_store.proofs.found.by_place.Goals as goal

pub loop-at-preserved : goal.loop-at-preserved
loop-at-preserved _ c = λ q.
    let front = c.pop.new.self.items in
    let parts : c.loop-at.found.items ≡ front ++ (c.in-Some.at, c.in-Some.cell) ∷ [] = c.in-Some.ensures.items in
    last_laid front c.in-Some.at c.in-Some.cell c.loop-at.map c.add.new.cells c.in_ok-add.ensures q
    ∙ ap (λ es. or_else (look_in es q) (look_in c.loop-at.map.entries q)) (sym parts) ∙ c.loop-at.invariant q
