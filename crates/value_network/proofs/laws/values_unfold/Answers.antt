use Rattle.value_network.proofs.Values.{unfolds}
use Rattle.value_network.proofs.laws.values_unfold.Goals as goal

pub returns : goal.returns
returns g c = λ net sound bad covers. unfolds net sound bad covers
