use Rattle.carried_values.proofs.Over.{values_go_over}
use Rattle.carried_values.proofs.laws.values_go_over.Goals as goal

pub returns : goal.returns
returns g c = values_go_over
