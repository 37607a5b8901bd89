use Rattle.std.proofs.Common.{◌∙◌, sym, ap, subst}
use Rattle.std.proofs.lemmas.Bool.{both_ways}
use Rattle.std.proofs.lemmas.Option.{same_Some}
use Rattle.std.specs.declared.ops.Bound.TheVariants.{Included, Excluded}
use Rattle.cell_addr.specs.Place.{covers}
use Rattle.grid_store.proofs.Listings.{IsIn, Progress, begun, end_in, first_in, gone_through, in_range, pass, take_up}
use Rattle.grid_store.proofs.view.View.find_between.Goals as goal

pub loop-key-init : goal.loop-key-init
loop-key-init _ c =
    let g = c.args.self.now in
    rw (← c.by_rows.ensures)
    (begun g.rows.now g.cols.now c.by_rows.result.now c.args.area (IsIn c.args.area.sheet c.args.row c.args.lines) (Included (first_in c.args.area.sheet c.args.row c.args.lines)) (Excluded (end_in c.args.area.sheet c.args.row c.args.lines)) c.args.found.now
    c.range-key-items.result c.into_iter-key-iterator.result (rw c.by_rows.ensures c.requires.cells) (in_range c.args.area.sheet c.args.row c.args.lines)
    c.into_iter-key-iterator.ensures.into_iter_gives (c.range-key-items.ensures.between tt) (c.range-key-items.ensures.in_range tt).0)

pub loop-key-preserved-in-Continue-1 : goal.loop-key-preserved-in-Continue-1
loop-key-preserved-in-Continue-1 _ c =
    let g = c.args.self.now in
    take_up g.rows.now g.cols.now g.cells.now.entries c.args.area (IsIn c.args.area.sheet c.args.row c.args.lines) c.args.found.now c.loop-key.found c.put.new.found (c.in-Some.key.now, c.in-Some.cell.now) c.next.new.self c.in-Some-place.at
    (subst (λ r. Progress g.rows.now g.cols.now g.cells.now.entries c.args.area (IsIn c.args.area.sheet c.args.row c.args.lines) c.args.found.now c.loop-key.found r) c.in-Some.ensures.steps c.loop-key.invariant)
    (sym c.in-Some-place.ensures) (sym c.holds.ensures.test ∙ c.if-holds.true) c.in_ok-put.ensures

pub loop-key-preserved-else-holds : goal.loop-key-preserved-else-holds
loop-key-preserved-else-holds _ c =
    let g = c.args.self.now in
    pass g.rows.now g.cols.now g.cells.now.entries c.args.area (IsIn c.args.area.sheet c.args.row c.args.lines) c.args.found.now c.loop-key.found (c.in-Some.key.now, c.in-Some.cell.now) c.next.new.self
    (subst (λ r. Progress g.rows.now g.cols.now g.cells.now.entries c.args.area (IsIn c.args.area.sheet c.args.row c.args.lines) c.args.found.now c.loop-key.found r) c.in-Some.ensures.steps c.loop-key.invariant)
    (λ q at there.
    let same = same_Some c.in-Some-place.at q (c.in-Some-place.ensures ∙ at) in
    both_ways (covers c.args.area c.in-Some-place.at) (sym c.holds.ensures.test ∙ c.if-holds.false) (ap (covers c.args.area) same ∙ there))

pub returns-clause-cells : goal.returns-clause-cells
returns-clause-cells _ c = c.loop-key.invariant.cells

pub returns-clause-cols : goal.returns-clause-cols
returns-clause-cols _ c =
    let g = c.args.self.now in
    gone_through g.rows.now g.cols.now g.cells.now.entries c.args.area c.args.row c.args.lines c.args.found.now c.loop-key.found
    (subst (λ r. Progress g.rows.now g.cols.now g.cells.now.entries c.args.area (IsIn c.args.area.sheet c.args.row c.args.lines) c.args.found.now c.loop-key.found r) c.in-None.ensures.steps.0 c.loop-key.invariant) c.requires.lines

pub returns-clause-still : goal.returns-clause-still
returns-clause-still _ c = c.loop-key.invariant.still

pub loop-key-preserved : goal.loop-key-preserved
loop-key-preserved _ c =
    let g = c.args.self.now in
    pass g.rows.now g.cols.now g.cells.now.entries c.args.area (IsIn c.args.area.sheet c.args.row c.args.lines) c.args.found.now c.loop-key.found (c.in-Some.key.now, c.in-Some.cell.now) c.next.new.self
    (subst (λ r. Progress g.rows.now g.cols.now g.cells.now.entries c.args.area (IsIn c.args.area.sheet c.args.row c.args.lines) c.args.found.now c.loop-key.found r) c.in-Some.ensures.steps c.loop-key.invariant)
    (λ q at there. let none = c.in_default.ensures in cc (none, at))
