use Rattle.shift_core.specs.declared.shift.Shift.TheVariants.{InsertRows}
use Rattle.std.proofs.Common.{◌≡◌, ◌∙◌, sym, refl, Some}
use Rattle.shift_core.specs.Tables.{place_after}
use Rattle.run_walk.proofs.Over.{over-more, sound-at}
use Rattle.run_walk.proofs.free.steps_of_place.Goals as goal

pub moved_place-requires : goal.moved_place-requires
moved_place-requires c = sound-at c.args.run.now c.run.index (InsertRows 0 0 0) c.requires c.run-test.true

pub run-preserved : goal.run-preserved
run-preserved c =
    let goes : place_after _ c.run.at ≡ Some c.in-Some.next = sym c.moved_place.ensures ∙ c.in-Some.is in
    over-more place_after c.args.run.now c.run.index (InsertRows 0 0 0) _ c.args.p c.run.at c.in-Some.next c.run-test.true refl c.run.invariant goes
