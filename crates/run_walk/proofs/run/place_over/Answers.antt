use Rattle.shift_core.specs.declared.shift.Shift.TheVariants.{InsertRows}
use Rattle.run_walk.proofs.Over.{sound-at}
use Rattle.run_walk.proofs.run.place_over.Goals as goal

pub moved_place-requires : goal.moved_place-requires
moved_place-requires c = sound-at c.args.run.now c.run.s-index (InsertRows 0 0 0) c.requires c.run-test.true
