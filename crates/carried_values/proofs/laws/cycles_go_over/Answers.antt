use Rattle.carried_values.proofs.Over.{cycles_go_over}
use Rattle.carried_values.proofs.laws.cycles_go_over.Goals as goal

pub returns : goal.returns
returns g c = cycles_go_over
