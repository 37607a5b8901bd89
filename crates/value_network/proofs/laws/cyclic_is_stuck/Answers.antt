use Rattle.value_network.proofs.Stuck.{cyclic_is_stuck}
use Rattle.value_network.proofs.laws.cyclic_is_stuck.Goals as goal

pub returns : goal.returns
returns g c = λ net sound. cyclic_is_stuck net sound
