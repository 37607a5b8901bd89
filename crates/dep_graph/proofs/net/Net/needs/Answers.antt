use Rattle.dep_graph.specs.Nodes.{items_of}
use Rattle.dep_graph.proofs.Copying.{needs_named}
use Rattle.dep_graph.proofs.Listing.{if_ok}
use Rattle.dep_graph.proofs.net.Net.needs.Goals as goal

pub returns : goal.returns
returns c = if_ok c.named.result _ _ c.named.ensures (λ found is. needs_named c.args.self.now c.args.number c.new-none.result.keys (items_of found) c.needs.result.now c.new-none.ensures.empty c.needs.ensures is)
