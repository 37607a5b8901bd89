use Rattle.value_network.proofs.Orders.{no_cycle_by_order}
use Rattle.value_network.proofs.laws.orders_forbid_cycles.Goals as goal

pub returns : goal.returns
returns g c = λ net _. no_cycle_by_order net
