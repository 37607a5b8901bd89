use Rattle.value_network.proofs.FollowedNeeds.{stuck_returns}
use Rattle.value_network.proofs.laws.stuck_returns.Goals as goal

pub returns : goal.returns
returns g c = λ net sound. stuck_returns net sound
