use Rattle.restored_values.proofs.ProbedBlocks.{probes_are_sound}
use Rattle.restored_values.proofs.laws.probes_are_sound.Goals as goal

pub returns : goal.returns
returns c = probes_are_sound
