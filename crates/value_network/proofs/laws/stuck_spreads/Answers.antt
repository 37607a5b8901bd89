use Rattle.value_network.proofs.Stuck.{stuck_spreads}
use Rattle.value_network.proofs.laws.stuck_spreads.Goals as goal

pub returns : goal.returns
returns g c = λ net sound. stuck_spreads net sound
