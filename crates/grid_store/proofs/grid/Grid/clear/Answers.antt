use Rattle.std.proofs.Common.{◌∙◌, ap}
use Rattle.grid_store.specs.Grid.{cells_of}
use Rattle.grid_store.specs.internal.Lists.{without}
use Rattle.grid_store.proofs.PlaceMaps.{without-within}
use Rattle.grid_store.proofs.grid.Grid.clear.Goals as goal

pub returns-clause-cleared : goal.returns-clause-cleared
returns-clause-cleared _ c =
    let m = cells_of c.args.self.now in
    c.empty.ensures.cells ∙ ap (λ es. without es m) (c.items.ensures ∙ c.in_ok-list.ensures) ∙ without-within c.args.area m
