-- Where empty places were filled and are emptied again, the map is as it was.
use Rattle.std.proofs.Common.{◌∙◌, ap}
use Rattle.grid_store.specs.Grid.{cells_of, items_of, without_places}
use Rattle.grid_store.specs.internal.Exchange.{places_of}
use Rattle.grid_store.proofs.Exchanges.{left-as-was}
use Rattle.grid_store.proofs.grid.Grid.fill.Goals as goal

pub returns-clause-err : goal.returns-clause-err
returns-clause-err _ c =
    let n = cells_of c.put_all.new.self in
    c.leave.ensures.cells ∙ ap (λ ps. without_places ps n) (c.deref.ensures.value ∙ c.in_ok-places.ensures)
    ∙ left-as-was (places_of (items_of c.args.list)) (cells_of c.args.self.now) n c.requires.empty c.in-Err.ensures.others
