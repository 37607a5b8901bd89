use Rattle.dep_graph.proofs.Listing.{last_number}
use Rattle.dep_graph.proofs.net.Net.know_key.Goals as goal

pub add-requires-clause-new : goal.add-requires-clause-new
add-requires-clause-new c = last_number c.args.self.now.nodes.keys.keys c.args.key c.in-None.ensures.index
