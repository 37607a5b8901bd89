-- The cells gone through are those of the block before the first that is beside the columns.
use Rattle.std.proofs.Common.{◌∙◌, ◌+◌, sym, ap, subst, arith}
use Rattle.std.proofs.lemmas.Bool.{both_ways}
use Rattle.std.proofs.lemmas.Option.{same_Some}
use Rattle.cell_addr.specs.Place.{covers}
use Rattle.stable_lines.specs.Sheets.{table_of}
use Rattle.grid_store.specs.internal.Listing.{AreLinesAt}
use Rattle.grid_store.proofs.Listings.{pass, take_up}
use Rattle.grid_store.proofs.Stretches.{IsOver, Stretch, first_inside, found_all, found_to_left, found_to_right, stretch_begun, stretch_on}
use Rattle.grid_store.proofs.view.View.find_up_to.Goals as goal

pub loop-key-init : goal.loop-key-init
loop-key-init _ c =
    let g = c.args.self.now in
    rw (← c.by_rows.ensures)
    (stretch_begun g.rows.now g.cols.now c.by_rows.result.now c.args.area c.args.row (c.args.lines.to + c.args.lines.count) c.args.cols c.args.found.now c.range-key-items.result c.into_iter-key-iterator.result (rw c.by_rows.ensures c.requires.cells)
    c.into_iter-key-iterator.ensures.into_iter_gives (c.range-key-items.ensures.between tt) (c.range-key-items.ensures.in_range tt).0 c.range-key-items.ensures.ordered)

pub returns-then-key-cols-clause-lines : goal.returns-then-key-cols-clause-lines
returns-then-key-cols-clause-lines _ c =
    let g = c.args.self.now in
    let s = subst (λ r. Stretch g.rows.now g.cols.now g.cells.now.entries c.args.area c.args.row (c.args.lines.to + c.args.lines.count) c.args.cols c.args.found.now c.loop-key.found r) c.in-Some.ensures.steps c.loop-key.invariant in
    (found_to_left g.rows.now g.cols.now g.cells.now.entries c.args.area c.args.row (c.args.lines.to + c.args.lines.count) c.args.cols c.args.found.now c.requires.cols c.requires.all c.loop-key.found (c.in-Some.key.now, c.in-Some.cell.now) c.next.new.self s c.if-key-cols.true).2

pub returns-then-key-cols-2-clause-lines : goal.returns-then-key-cols-2-clause-lines
returns-then-key-cols-2-clause-lines _ c =
    let g = c.args.self.now in
    let s = subst (λ r. Stretch g.rows.now g.cols.now g.cells.now.entries c.args.area c.args.row (c.args.lines.to + c.args.lines.count) c.args.cols c.args.found.now c.loop-key.found r) c.in-Some.ensures.steps c.loop-key.invariant in
    (found_to_right g.rows.now g.cols.now g.cells.now.entries c.args.area c.args.row (c.args.lines.to + c.args.lines.count) c.args.cols c.args.found.now c.requires.cols c.requires.all c.loop-key.found (c.in-Some.key.now, c.in-Some.cell.now) c.next.new.self s c.if-key-cols-2.true).2

pub place_on-at-requires-clause-lines : goal.place_on-at-requires-clause-lines
place_on-at-requires-clause-lines _ c =
    let g = c.args.self.now in
    let s = subst (λ r. Stretch g.rows.now g.cols.now g.cells.now.entries c.args.area c.args.row (c.args.lines.to + c.args.lines.count) c.args.cols c.args.found.now c.loop-key.found r) c.in-Some.ensures.steps c.loop-key.invariant in
    let own = first_inside g.rows.now g.cols.now g.cells.now.entries c.args.area c.args.row (c.args.lines.to + c.args.lines.count) c.args.cols c.args.found.now c.loop-key.found (c.in-Some.key.now, c.in-Some.cell.now) c.next.new.self s in
    subst (λ sheet. AreLinesAt (table_of g.rows.now sheet) c.args.lines) (sym own.0) c.requires.lines

pub place_on-at-requires-clause-row : goal.place_on-at-requires-clause-row
place_on-at-requires-clause-row _ c =
    let g = c.args.self.now in
    let s = subst (λ r. Stretch g.rows.now g.cols.now g.cells.now.entries c.args.area c.args.row (c.args.lines.to + c.args.lines.count) c.args.cols c.args.found.now c.loop-key.found r) c.in-Some.ensures.steps c.loop-key.invariant in
    let own = first_inside g.rows.now g.cols.now g.cells.now.entries c.args.area c.args.row (c.args.lines.to + c.args.lines.count) c.args.cols c.args.found.now c.loop-key.found (c.in-Some.key.now, c.in-Some.cell.now) c.next.new.self s in
    let from = c.requires.from in (omega (arith, from, own.1), own.2)

pub place_on-at-requires-clause-cols : goal.place_on-at-requires-clause-cols
place_on-at-requires-clause-cols _ c =
    let g = c.args.self.now in
    let s = subst (λ r. Stretch g.rows.now g.cols.now g.cells.now.entries c.args.area c.args.row (c.args.lines.to + c.args.lines.count) c.args.cols c.args.found.now c.loop-key.found r) c.in-Some.ensures.steps c.loop-key.invariant in
    let own = first_inside g.rows.now g.cols.now g.cells.now.entries c.args.area c.args.row (c.args.lines.to + c.args.lines.count) c.args.cols c.args.found.now c.loop-key.found (c.in-Some.key.now, c.in-Some.cell.now) c.next.new.self s in
    subst (λ sheet. AreLinesAt (table_of g.cols.now sheet) c.args.cols) (sym own.0) c.requires.cols

pub loop-key-preserved-in-Continue-1 : goal.loop-key-preserved-in-Continue-1
loop-key-preserved-in-Continue-1 _ c =
    let g = c.args.self.now in
    let s = subst (λ r. Stretch g.rows.now g.cols.now g.cells.now.entries c.args.area c.args.row (c.args.lines.to + c.args.lines.count) c.args.cols c.args.found.now c.loop-key.found r) c.in-Some.ensures.steps c.loop-key.invariant in
    stretch_on g.rows.now g.cols.now g.cells.now.entries c.args.area c.args.row (c.args.lines.to + c.args.lines.count) c.args.cols c.args.found.now c.loop-key.found c.put.new.found (c.in-Some.key.now, c.in-Some.cell.now) c.next.new.self s
    (take_up g.rows.now g.cols.now g.cells.now.entries c.args.area (IsOver c.args.area.sheet c.args.row (c.args.lines.to + c.args.lines.count) c.args.cols) c.args.found.now c.loop-key.found c.put.new.found (c.in-Some.key.now, c.in-Some.cell.now) c.next.new.self c.place_on-at.result s.progress
    c.place_on-at.ensures (sym c.holds.ensures.test ∙ c.if-holds.true) c.in_ok-put.ensures)

pub loop-key-preserved : goal.loop-key-preserved
loop-key-preserved _ c =
    let g = c.args.self.now in
    let s = subst (λ r. Stretch g.rows.now g.cols.now g.cells.now.entries c.args.area c.args.row (c.args.lines.to + c.args.lines.count) c.args.cols c.args.found.now c.loop-key.found r) c.in-Some.ensures.steps c.loop-key.invariant in
    stretch_on g.rows.now g.cols.now g.cells.now.entries c.args.area c.args.row (c.args.lines.to + c.args.lines.count) c.args.cols c.args.found.now c.loop-key.found c.loop-key.found (c.in-Some.key.now, c.in-Some.cell.now) c.next.new.self s
    (pass g.rows.now g.cols.now g.cells.now.entries c.args.area (IsOver c.args.area.sheet c.args.row (c.args.lines.to + c.args.lines.count) c.args.cols) c.args.found.now c.loop-key.found (c.in-Some.key.now, c.in-Some.cell.now) c.next.new.self s.progress
    (λ q at there.
    let same = same_Some c.place_on-at.result q (sym c.place_on-at.ensures ∙ at) in
    both_ways (covers c.args.area c.place_on-at.result) (sym c.holds.ensures.test ∙ c.if-holds.false) (ap (covers c.args.area) same ∙ there)))

pub returns-clause-lines : goal.returns-clause-lines
returns-clause-lines _ c =
    let g = c.args.self.now in
    found_all g.rows.now g.cols.now g.cells.now.entries c.args.area c.args.row (c.args.lines.to + c.args.lines.count) c.args.cols c.args.found.now c.requires.cols c.requires.all c.loop-key.found
    (subst (λ r. Stretch g.rows.now g.cols.now g.cells.now.entries c.args.area c.args.row (c.args.lines.to + c.args.lines.count) c.args.cols c.args.found.now c.loop-key.found r) c.in-None.ensures.steps.0 c.loop-key.invariant)
