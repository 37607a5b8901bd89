use Rattle.shift_core.specs.declared.shift.Shift.TheVariants.{InsertRows}
use Rattle.std.proofs.Common.{refl, get_or}
use Rattle.tree_rewrite.specs.Rewritten.{area_after}
use Rattle.run_walk.proofs.Freeing.{carried-more}
use Rattle.run_walk.proofs.Over.{over-more, sound-at}
use Rattle.run_walk.proofs.free.steps_of_block.Goals as goal

pub carried_area-requires : goal.carried_area-requires
carried_area-requires c = sound-at c.args.run.now c.run.index (InsertRows 0 0 0) c.requires c.run-test.true

pub run-preserved : goal.run-preserved
run-preserved c =
    let run = c.args.run.now in
    let d = InsertRows 0 0 0 in
    let s = get_or run c.run.index d in
    record {
      here = over-more (λ z. area_after z c.args.lines) run c.run.index d s c.args.b c.run.at c.in-Some.next c.run-test.true refl c.run.invariant.here c.in-Some.ensures.after;
      back = carried-more run c.run.index d s c.args.lines c.args.b c.run.at c.in-Some.next c.run-test.true refl c.in-Some.ensures.after c.in-Some.ensures.back c.run.invariant.here c.run.invariant.back;
    }
