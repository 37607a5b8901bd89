use Rattle.dep_graph.proofs.Places.{once_nodes}
use Rattle.dep_graph.proofs.net.Net.put.Goals as goal

pub invariant_of-split-in-None : goal.invariant_of-split-in-None
invariant_of-split-in-None c = record { once = once_nodes c.insert-in-None.new.self.keys c.insert-in-None.ensures.unique }
