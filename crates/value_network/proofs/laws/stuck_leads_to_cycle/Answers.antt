use Rattle.value_network.proofs.FollowedNeeds.{stuck_leads_to_cycle}
use Rattle.value_network.proofs.laws.stuck_leads_to_cycle.Goals as goal

pub returns : goal.returns
returns g c = λ net sound. stuck_leads_to_cycle net sound
