-- Places of a list that are each inside; one cell that is placed where a place is emptied.
use Rattle.std.proofs.Common.{◌≡◌, ◌∙◌, sym, subst, true}
use Rattle.std.specs.Prelude.{OnOk}
use Rattle.std.proofs.lemmas.List.Elements.{recursion_from_All}
use Rattle.cell_addr.specs.Place.{IsInside}
use Rattle.grid_store.specs.Grid.{cells_of, items_of}
use Rattle.grid_store.specs.internal.Exchange.{is_one_cell}
use Rattle.grid_store.proofs.Exchanges.{one_placed}
use Rattle.grid_store.proofs.grid.Grid.exchange.Goals as goal

pub replace-requires : goal.replace-requires
replace-requires _ c = recursion_from_All (λ e. IsInside e.0) (items_of c.args.placed) c.requires

pub returns-then-is_one_cell-clause-ok : goal.returns-then-is_one_cell-clause-ok
returns-then-is_one_cell-clause-ok _ c =
    subst (λ m. OnOk c.place_one.result (cells_of c.place_one.new.self ≡ m))
    (one_placed c.args.emptied.now (items_of c.args.placed) (cells_of c.args.self.now)
    (subst (λ es. is_one_cell c.args.emptied.now es ≡ true) c.items.ensures (sym c.is_one_cell.ensures ∙ c.if-is_one_cell.true))) c.place_one.ensures.ok
