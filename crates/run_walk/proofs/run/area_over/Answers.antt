use Rattle.shift_core.specs.declared.shift.Shift.TheVariants.{InsertRows}
use Rattle.run_walk.proofs.Over.{sound-at}
use Rattle.run_walk.proofs.run.area_over.Goals as goal

pub moved_area-requires : goal.moved_area-requires
moved_area-requires c = sound-at c.args.run.now c.run.s-index (InsertRows 0 0 0) c.requires c.run-test.true
