use Rattle.std.proofs.Common.{◌∙◌, ◌-◌, sym, arith}
use Rattle.shift_core.specs.Tables.{place_before}
use Rattle.shift_core.specs.declared.shift.Shift.TheVariants.{InsertRows}
use Rattle.run_walk.specs.Run.{place_back}
use Rattle.run_walk.proofs.Over.{back-ends, back-fewer, sound-at}
use Rattle.run_walk.proofs.run.place_back.Goals as goal

pub back_place-requires : goal.back_place-requires
back_place-requires c = sound-at c.args.run.now (c.run.index - 1) (InsertRows 0 0 0) c.requires (omega (arith, c.run-test.true, c.run.auto.index))

pub returns-in_err-at : goal.returns-in_err-at
returns-in_err-at c =
    let run = c.args.run.now in
    c.from_residual.ensures ∙ sym (back-ends place_before run c.run.index (InsertRows 0 0 0) c.run.at (place_back run c.args.p) (omega (arith, c.run-test.true)) (omega (arith, c.run.auto.index)) c.run.invariant (sym c.back_place.ensures ∙ c.in_err-at.was))

pub run-preserved : goal.run-preserved
run-preserved c =
    let run = c.args.run.now in
    back-fewer place_before run c.run.index (InsertRows 0 0 0) c.run.at (place_back run c.args.p) (omega (arith, c.run-test.true)) (omega (arith, c.run.auto.index)) c.run.invariant c.in_ok-at.at (sym c.back_place.ensures ∙ c.in_ok-at.was)
