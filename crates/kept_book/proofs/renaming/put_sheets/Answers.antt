use Rattle.std.proofs.Common.{◌≡◌, ◌∙◌, ◌-◌, ◌+◌, ◌<◌, sym, ap, subst, arith, length, map, drop}
use Rattle.name_table.specs.Drafts.{sheets_drafted}
use Rattle.name_table.specs.Listed.{listed}
use Rattle.kept_book.specs.Change.{HasSlot, sheets_with}
use Rattle.kept_book.specs.Kept.{sheet_change}
use Rattle.kept_book.specs.internal.Stepping.{of_side}
use Rattle.kept_book.proofs.ChangesInOrder.{slot-at}
use Rattle.kept_book.proofs.renaming.put_sheets.Goals as goal

pub set_sheet-requires : goal.set_sheet-requires
set_sheet-requires c =
    let i = c.loop-index.index - 1 in
    let cs = c.args.changes.now in
    let e = c.index-changes-index.result in
    let last : c.loop-index.index ≡ i + 1 = omega (arith, c.loop-index-test.true) in
    let below : i < length cs = omega (arith, c.loop-index-test.true, c.loop-index.auto.index) in
    let slot = slot-at (of_side c.args.side) cs i e (sheets_drafted c.args.draft.now (listed c.args.names.now)) c.requires below c.index-changes-index.is in
    let there = c.loop-index.invariant.0 ∙ ap (λ n. sheets_with (of_side c.args.side) (map sheet_change (drop n cs)) (sheets_drafted c.args.draft.now (listed c.args.names.now))) last in
    record { slot = subst (λ s. HasSlot e.id (of_side s (e.before, e.after)) (sheets_drafted c.loop-index.draft (listed c.args.names.now))) c.in-Before.is (subst (HasSlot e.id (of_side c.args.side (e.before, e.after))) (sym there) slot) }

pub set_sheet-requires-in-After : goal.set_sheet-requires-in-After
set_sheet-requires-in-After c =
    let i = c.loop-index.index - 1 in
    let cs = c.args.changes.now in
    let e = c.index-changes-index.result in
    let last : c.loop-index.index ≡ i + 1 = omega (arith, c.loop-index-test.true) in
    let below : i < length cs = omega (arith, c.loop-index-test.true, c.loop-index.auto.index) in
    let slot = slot-at (of_side c.args.side) cs i e (sheets_drafted c.args.draft.now (listed c.args.names.now)) c.requires below c.index-changes-index.is in
    let there = c.loop-index.invariant.0 ∙ ap (λ n. sheets_with (of_side c.args.side) (map sheet_change (drop n cs)) (sheets_drafted c.args.draft.now (listed c.args.names.now))) last in
    record { slot = subst (λ s. HasSlot e.id (of_side s (e.before, e.after)) (sheets_drafted c.loop-index.draft (listed c.args.names.now))) c.in-After.is (subst (HasSlot e.id (of_side c.args.side (e.before, e.after))) (sym there) slot) }
