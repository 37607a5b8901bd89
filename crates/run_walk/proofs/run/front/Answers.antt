use Rattle.run_walk.proofs.Over.{sound-take}
use Rattle.run_walk.proofs.run.front.Goals as goal

pub returns-clause-sound : goal.returns-clause-sound
returns-clause-sound c = λ sound. sound-take c.args.count c.args.run.now sound
