use Rattle.std.proofs.Common.{get_or}
use Rattle.needs_order.proofs.Lists.{has_at}
use Rattle.dep_graph.proofs.net.Net.add_filed.Goals as goal

pub from_slot-requires : goal.from_slot-requires
from_slot-requires c = c.requires (get_or c.args.slots.now c.slots.slot-index 0) (has_at c.args.slots.now c.slots.slot-index c.slots-test.true)
