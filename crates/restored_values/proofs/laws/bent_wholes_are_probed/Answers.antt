use Rattle.restored_values.proofs.ProbedWholes.{bent_wholes_are_probed}
use Rattle.restored_values.proofs.laws.bent_wholes_are_probed.Goals as goal

pub returns : goal.returns
returns c = bent_wholes_are_probed
