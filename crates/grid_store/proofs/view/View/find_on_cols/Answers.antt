use Rattle.std.proofs.Common.{◌≡◌, ◌∙◌, sym, ap, subst, Some, is_some}
use Rattle.std.specs.BTreeMap as tree
use Rattle.std.proofs.lemmas.Bool.{both_ways}
use Rattle.std.proofs.lemmas.Option.{same_Some}
use Rattle.cell_addr.specs.Place.{covers}
use Rattle.grid_store.specs.Keys.{key_cmp, place_at}
use Rattle.grid_store.specs.internal.Turned.{turned}
use Rattle.grid_store.proofs.ColumnKeys.{Progress, begun, gone_through, pass, take_up}
use Rattle.grid_store.proofs.Views.{kept}
use Rattle.grid_store.proofs.view.View.find_on_cols.Goals as goal

pub loop-turned-init : goal.loop-turned-init
loop-turned-init _ c =
    let g = c.args.self.now in
    begun g.rows.now g.cols.now g.cells.now c.by_cols.result.now c.args.area c.args.lines c.args.found.now c.range-turned-items.result c.into_iter-turned-iterator.result c.by_cols.ensures c.requires.cells c.into_iter-turned-iterator.ensures.into_iter_gives
    (c.range-turned-items.ensures.between tt)

pub loop-turned-preserved-in-Continue-1 : goal.loop-turned-preserved-in-Continue-1
loop-turned-preserved-in-Continue-1 _ c =
    let g = c.args.self.now in
    let is : kept g.cells.now.entries (turned c.in-Some.turned.now) ≡ Some c.in-Some-get.cell.now = sym (c.in-Some-get.ensures.value ∙ (λ i. tree.get key_cmp (c.by_rows.ensures i) (c.turned-key.ensures i))) in
    take_up g.rows.now g.cols.now g.cells.now.entries c.args.area c.args.lines c.args.found.now c.loop-turned.found c.put.new.found c.in-Some.turned.now c.next.new.self c.in-Some-place.at c.in-Some-get.cell.now
    (subst (λ r. Progress g.rows.now g.cols.now g.cells.now.entries c.args.area c.args.lines c.args.found.now c.loop-turned.found r) c.in-Some.ensures.steps c.loop-turned.invariant)
    (sym (c.in-Some-place.ensures ∙ ap (place_at g.rows.now g.cols.now) c.turned-key.ensures)) (sym c.holds.ensures.test ∙ c.if-holds.true) is c.in_ok-put.ensures

pub loop-turned-preserved-in_default-get : goal.loop-turned-preserved-in_default-get
loop-turned-preserved-in_default-get _ c =
    let g = c.args.self.now in
    pass g.rows.now g.cols.now g.cells.now.entries c.args.area c.args.lines c.args.found.now c.loop-turned.found c.in-Some.turned.now c.next.new.self
    (subst (λ r. Progress g.rows.now g.cols.now g.cells.now.entries c.args.area c.args.lines c.args.found.now c.loop-turned.found r) c.in-Some.ensures.steps c.loop-turned.invariant) (λ q some at there.
    let none = c.in_default-get.ensures.value ∙ (λ i. tree.get key_cmp (c.by_rows.ensures i) (c.turned-key.ensures i)) in both_ways _ (ap is_some (sym none)) some)

pub loop-turned-preserved-else-holds : goal.loop-turned-preserved-else-holds
loop-turned-preserved-else-holds _ c =
    let g = c.args.self.now in
    pass g.rows.now g.cols.now g.cells.now.entries c.args.area c.args.lines c.args.found.now c.loop-turned.found c.in-Some.turned.now c.next.new.self
    (subst (λ r. Progress g.rows.now g.cols.now g.cells.now.entries c.args.area c.args.lines c.args.found.now c.loop-turned.found r) c.in-Some.ensures.steps c.loop-turned.invariant) (λ q some at there.
    let same = same_Some c.in-Some-place.at q (c.in-Some-place.ensures ∙ ap (place_at g.rows.now g.cols.now) c.turned-key.ensures ∙ at) in
    both_ways (covers c.args.area c.in-Some-place.at) (sym c.holds.ensures.test ∙ c.if-holds.false) (ap (covers c.args.area) same ∙ there))

pub loop-turned-preserved : goal.loop-turned-preserved
loop-turned-preserved _ c =
    let g = c.args.self.now in
    pass g.rows.now g.cols.now g.cells.now.entries c.args.area c.args.lines c.args.found.now c.loop-turned.found c.in-Some.turned.now c.next.new.self
    (subst (λ r. Progress g.rows.now g.cols.now g.cells.now.entries c.args.area c.args.lines c.args.found.now c.loop-turned.found r) c.in-Some.ensures.steps c.loop-turned.invariant) (λ q some at there.
    let none = c.in_default.ensures ∙ ap (place_at g.rows.now g.cols.now) c.turned-key.ensures in cc (none, at))

pub returns-clause-columns : goal.returns-clause-columns
returns-clause-columns _ c =
    let g = c.args.self.now in
    gone_through g.rows.now g.cols.now g.cells.now.entries c.args.area c.args.lines c.args.found.now c.loop-turned.found
    (subst (λ r. Progress g.rows.now g.cols.now g.cells.now.entries c.args.area c.args.lines c.args.found.now c.loop-turned.found r) c.in-None.ensures.steps.0 c.loop-turned.invariant) c.requires.lines
