use Rattle.value_network.proofs.ShortChains.{short_chains}
use Rattle.value_network.proofs.laws.chains_are_short.Goals as goal

pub returns : goal.returns
returns g c = λ net sound. short_chains net sound
