use Rattle.value_network.proofs.Stuck.{free_needs_free}
use Rattle.value_network.proofs.laws.free_needs_free.Goals as goal

pub returns : goal.returns
returns g c = λ net sound. free_needs_free net sound
