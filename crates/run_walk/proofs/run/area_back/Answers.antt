use Rattle.std.proofs.Common.{◌∙◌, ◌-◌, sym, arith}
use Rattle.tree_rewrite.specs.Rewritten.{area_before}
use Rattle.shift_core.specs.declared.shift.Shift.TheVariants.{InsertRows}
use Rattle.run_walk.specs.Run.{area_back}
use Rattle.run_walk.proofs.Over.{back-ends, back-fewer, sound-at}
use Rattle.run_walk.proofs.run.area_back.Goals as goal

pub back_area-requires : goal.back_area-requires
back_area-requires c = sound-at c.args.run.now (c.run.index - 1) (InsertRows 0 0 0) c.requires (omega (arith, c.run-test.true, c.run.auto.index))

pub returns-in_err-at : goal.returns-in_err-at
returns-in_err-at c =
    let run = c.args.run.now in
    c.from_residual.ensures ∙ sym (back-ends (λ s. area_before s c.args.lines) run c.run.index (InsertRows 0 0 0) c.run.at (area_back run c.args.lines c.args.b) (omega (arith, c.run-test.true)) (omega (arith, c.run.auto.index)) c.run.invariant (sym c.back_area.ensures ∙ c.in_err-at.was))

pub run-preserved : goal.run-preserved
run-preserved c =
    let run = c.args.run.now in
    back-fewer (λ s. area_before s c.args.lines) run c.run.index (InsertRows 0 0 0) c.run.at (area_back run c.args.lines c.args.b) (omega (arith, c.run-test.true)) (omega (arith, c.run.auto.index)) c.run.invariant c.in_ok-at.at (sym c.back_area.ensures ∙ c.in_ok-at.was)
