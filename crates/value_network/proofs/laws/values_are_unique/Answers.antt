use Rattle.value_network.proofs.Values.{unique}
use Rattle.value_network.proofs.laws.values_are_unique.Goals as goal

pub returns : goal.returns
returns g c = λ net sound bad covers. unique net sound bad covers
