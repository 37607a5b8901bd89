use Rattle.value_network.proofs.Values.{works_in_place}
use Rattle.value_network.proofs.laws.values_come_in_place.Goals as goal

pub returns : goal.returns
returns g c = λ net sound bad covers. works_in_place net sound bad covers
