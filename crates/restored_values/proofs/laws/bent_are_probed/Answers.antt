use Rattle.restored_values.proofs.ProbedBlocks.{bent_are_probed}
use Rattle.restored_values.proofs.laws.bent_are_probed.Goals as goal

pub returns : goal.returns
returns c = bent_are_probed
