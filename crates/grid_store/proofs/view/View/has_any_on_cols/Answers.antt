use Rattle.std.proofs.Common.{◌∙◌, sym, ap, subst}
use Rattle.std.proofs.lemmas.Bool.{both_ways}
use Rattle.std.proofs.lemmas.Option.{same_Some}
use Rattle.cell_addr.specs.Place.{covers}
use Rattle.grid_store.specs.Keys.{place_at}
use Rattle.grid_store.proofs.ColumnKeys.{Search, search_begun, search_hit, search_on, search_over}
use Rattle.grid_store.proofs.view.View.has_any_on_cols.Goals as goal

pub loop-turned-init : goal.loop-turned-init
loop-turned-init _ c =
    let g = c.args.self.now in
    search_begun g.rows.now g.cols.now g.cells.now c.by_cols.result.now c.args.area c.args.lines c.range-turned-items.result c.into_iter-turned-iterator.result c.by_cols.ensures c.into_iter-turned-iterator.ensures.into_iter_gives
    (c.range-turned-items.ensures.between tt) (c.range-turned-items.ensures.in_range tt).0

pub loop-turned-preserved-else-holds : goal.loop-turned-preserved-else-holds
loop-turned-preserved-else-holds _ c =
    let g = c.args.self.now in
    search_on g.rows.now g.cols.now g.cells.now.entries c.args.area c.args.lines c.in-Some.turned.now c.next.new.self (subst (Search g.rows.now g.cols.now g.cells.now.entries c.args.area c.args.lines) c.in-Some.ensures.steps c.loop-turned.invariant)
    (λ q at there.
    let same = same_Some c.in-Some-place.at q (c.in-Some-place.ensures ∙ ap (place_at g.rows.now g.cols.now) c.turned.ensures ∙ at) in
    both_ways (covers c.args.area c.in-Some-place.at) (sym c.holds.ensures.test ∙ c.if-holds.false) (ap (covers c.args.area) same ∙ there))

pub returns-then-holds-clause-found : goal.returns-then-holds-clause-found
returns-then-holds-clause-found _ c = λ _.
    let g = c.args.self.now in
    search_hit g.rows.now g.cols.now g.cells.now.entries c.args.area c.args.lines c.in-Some.turned.now c.next.new.self c.in-Some-place.at
    (subst (Search g.rows.now g.cols.now g.cells.now.entries c.args.area c.args.lines) c.in-Some.ensures.steps c.loop-turned.invariant) (sym (c.in-Some-place.ensures ∙ ap (place_at g.rows.now g.cols.now) c.turned.ensures)) (sym c.holds.ensures.test ∙ c.if-holds.true)

pub returns-clause-none : goal.returns-clause-none
returns-clause-none _ c = λ _.
    let g = c.args.self.now in
    search_over g.rows.now g.cols.now g.cells.now.entries c.args.area c.args.lines (subst (Search g.rows.now g.cols.now g.cells.now.entries c.args.area c.args.lines) c.in-None.ensures.steps.0 c.loop-turned.invariant) c.requires.lines

pub loop-turned-preserved : goal.loop-turned-preserved
loop-turned-preserved _ c =
    let g = c.args.self.now in
    search_on g.rows.now g.cols.now g.cells.now.entries c.args.area c.args.lines c.in-Some.turned.now c.next.new.self
    (subst (Search g.rows.now g.cols.now g.cells.now.entries c.args.area c.args.lines) c.in-Some.ensures.steps c.loop-turned.invariant)
    (λ q at there. let none = c.in_default.ensures ∙ ap (place_at g.rows.now g.cols.now) c.turned.ensures in cc (none, at))
