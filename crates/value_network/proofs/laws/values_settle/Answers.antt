use Rattle.value_network.proofs.Values.{settles}
use Rattle.value_network.proofs.laws.values_settle.Goals as goal

pub returns : goal.returns
returns g c = λ net sound bad covers. settles net sound bad covers
