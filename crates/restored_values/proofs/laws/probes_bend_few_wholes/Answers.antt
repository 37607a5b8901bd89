use Rattle.restored_values.proofs.ProbedWholes.{probes_bend_few_wholes}
use Rattle.restored_values.proofs.laws.probes_bend_few_wholes.Goals as goal

pub returns : goal.returns
returns c = probes_bend_few_wholes
