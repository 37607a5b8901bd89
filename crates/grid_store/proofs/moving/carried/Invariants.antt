use Rattle.std.proofs.Common.{◌≡◌, ◌++◌, filter_map}
use Rattle.shift_core.specs.declared.form.Form.TheVariants.{Cells}
use Rattle.grid_store.specs.Grid.{items_of}
use Rattle.grid_store.specs.internal.Lists.{carried_entry}
use Rattle.grid_store.specs.internal.Ways.{form_goes}
use Rattle.grid_store.proofs.moving.carried.Given as goal

abbrev pub invariant-loop-at : goal.invariant-loop-at
invariant-loop-at _ l =
    let goes = form_goes l.fn.way (Cells l.fn.source l.fn.to) in
    items_of l.all ++ filter_map (carried_entry goes) l.at-iterator.rest.items ≡ items_of l.fn.more ++ filter_map (carried_entry goes) (items_of l.fn.list)
