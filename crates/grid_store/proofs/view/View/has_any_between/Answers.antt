use Rattle.std.proofs.Common.{◌∙◌, sym, ap, subst}
use Rattle.std.proofs.lemmas.Bool.{both_ways}
use Rattle.std.proofs.lemmas.Option.{same_Some}
use Rattle.cell_addr.specs.Place.{covers}
use Rattle.grid_store.proofs.Listings.{Search, search_begun, search_hit, search_on, search_over}
use Rattle.grid_store.proofs.view.View.has_any_between.Goals as goal

pub loop-key-init : goal.loop-key-init
loop-key-init _ c =
    let g = c.args.self.now in
    rw (← c.by_rows.ensures)
    (search_begun g.rows.now g.cols.now c.by_rows.result.now c.args.area c.args.row c.args.lines c.range-key-items.result c.into_iter-key-iterator.result c.into_iter-key-iterator.ensures.into_iter_gives (c.range-key-items.ensures.between tt)
    (c.range-key-items.ensures.in_range tt).0)

pub loop-key-preserved-else-holds : goal.loop-key-preserved-else-holds
loop-key-preserved-else-holds _ c =
    let g = c.args.self.now in
    search_on g.rows.now g.cols.now g.cells.now.entries c.args.area c.args.row c.args.lines (c.in-Some.key.now, c.in-Some._cell.now) c.next.new.self
    (subst (Search g.rows.now g.cols.now g.cells.now.entries c.args.area c.args.row c.args.lines) c.in-Some.ensures.steps c.loop-key.invariant)
    (λ q at there.
    let same = same_Some c.in-Some-place.at q (c.in-Some-place.ensures ∙ at) in
    both_ways (covers c.args.area c.in-Some-place.at) (sym c.holds.ensures.test ∙ c.if-holds.false) (ap (covers c.args.area) same ∙ there))

pub returns-then-holds-clause-found : goal.returns-then-holds-clause-found
returns-then-holds-clause-found _ c = λ _.
    let g = c.args.self.now in
    search_hit g.rows.now g.cols.now g.cells.now.entries c.args.area c.args.row c.args.lines (c.in-Some.key.now, c.in-Some._cell.now) c.next.new.self c.in-Some-place.at
    (subst (Search g.rows.now g.cols.now g.cells.now.entries c.args.area c.args.row c.args.lines) c.in-Some.ensures.steps c.loop-key.invariant) (sym c.in-Some-place.ensures) (sym c.holds.ensures.test ∙ c.if-holds.true)

pub returns-clause-none : goal.returns-clause-none
returns-clause-none _ c = λ _.
    let g = c.args.self.now in
    search_over g.rows.now g.cols.now g.cells.now.entries c.args.area c.args.row c.args.lines (subst (Search g.rows.now g.cols.now g.cells.now.entries c.args.area c.args.row c.args.lines) c.in-None.ensures.steps.0 c.loop-key.invariant) c.requires.lines

pub loop-key-preserved : goal.loop-key-preserved
loop-key-preserved _ c =
    let g = c.args.self.now in
    search_on g.rows.now g.cols.now g.cells.now.entries c.args.area c.args.row c.args.lines (c.in-Some.key.now, c.in-Some._cell.now) c.next.new.self
    (subst (Search g.rows.now g.cols.now g.cells.now.entries c.args.area c.args.row c.args.lines) c.in-Some.ensures.steps c.loop-key.invariant) (λ q at there. let none = c.in_default.ensures in cc (none, at))
