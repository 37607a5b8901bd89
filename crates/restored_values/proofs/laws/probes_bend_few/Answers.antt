use Rattle.restored_values.proofs.NearBlocks.{probes_bend_few}
use Rattle.restored_values.proofs.laws.probes_bend_few.Goals as goal

pub returns : goal.returns
returns c = probes_bend_few
