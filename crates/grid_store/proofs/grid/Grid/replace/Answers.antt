-- What is placed at empty places and then over the others leaves the map that emptying and then filling makes.
use Rattle.std.proofs.Common.{◌∙◌, sym, ap, subst, is_none, is_some}
use Rattle.std.specs.FinMap as map
use Rattle.cell_addr.specs.Place.{IsInside}
use Rattle.grid_store.specs.Grid.{cells_of, items_of, with_entries, without_places}
use Rattle.grid_store.specs.internal.Exchange.{AreFilled}
use Rattle.grid_store.specs.internal.Lists.{AreEachInside}
use Rattle.grid_store.proofs.Exchanges.{each-filtered, exchanged, fresh-lacking, over-filled}
use Rattle.grid_store.proofs.grid.Grid.replace.Goals as goal

pub fill-requires-clause-inside : goal.fill-requires-clause-inside
fill-requires-clause-inside _ c =
    subst AreEachInside (sym c.in_ok-over.ensures.fresh) (each-filtered (λ e. IsInside e.0) (λ e. is_none (map.get (cells_of c.args.self.now) e.0)) (items_of c.args.placed) c.requires)

pub fill-requires-clause-empty : goal.fill-requires-clause-empty
fill-requires-clause-empty _ c =
    fresh-lacking (items_of c.args.placed) (items_of c.in_ok-over.fresh) (cells_of c.args.self.now) c.in_ok-over.ensures.fresh

pub settle-requires-clause-inside : goal.settle-requires-clause-inside
settle-requires-clause-inside _ c =
    subst AreEachInside (sym c.in_ok-over.ensures.over) (each-filtered (λ e. IsInside e.0) (λ e. is_some (map.get (cells_of c.args.self.now) e.0)) (items_of c.args.placed) c.requires)

pub settle-requires-clause-filled : goal.settle-requires-clause-filled
settle-requires-clause-filled _ c =
    let m = cells_of c.args.self.now in
    subst (AreFilled (items_of c.in_ok-over.over)) (sym (c.leave.ensures.cells ∙ ap (without_places c.deref-2.result.now) c.in_ok-fill.ensures.ok))
    (over-filled c.args.emptied.now c.deref.result.now c.deref-2.result.now (items_of c.args.placed) (items_of c.in_ok-over.over) (items_of c.in_ok-over.fresh) m
    (c.deref.ensures.value ∙ c.in_ok-targets.ensures) (c.deref-2.ensures.value ∙ c.in_ok-left.ensures) c.in_ok-over.ensures.over c.in_ok-over.ensures.fresh)

pub returns-clause-ok : goal.returns-clause-ok
returns-clause-ok _ c =
    let m = cells_of c.args.self.now in
    c.settle.ensures.cells ∙ ap (with_entries (items_of c.in_ok-over.over)) (c.leave.ensures.cells ∙ ap (without_places c.deref-2.result.now) c.in_ok-fill.ensures.ok)
    ∙ exchanged c.args.emptied.now c.deref.result.now c.deref-2.result.now (items_of c.args.placed) (items_of c.in_ok-over.over) (items_of c.in_ok-over.fresh) m
    (c.deref.ensures.value ∙ c.in_ok-targets.ensures) (c.deref-2.ensures.value ∙ c.in_ok-left.ensures) c.in_ok-over.ensures.over c.in_ok-over.ensures.fresh
