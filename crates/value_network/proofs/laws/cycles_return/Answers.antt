use Rattle.value_network.proofs.FollowedNeeds.{cycles_return}
use Rattle.value_network.proofs.laws.cycles_return.Goals as goal

pub returns : goal.returns
returns g c = λ net sound. cycles_return net sound
