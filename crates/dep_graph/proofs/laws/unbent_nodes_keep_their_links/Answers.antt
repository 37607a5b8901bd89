use Rattle.dep_graph.proofs.UnbentNodes.{unbent_links}
use Rattle.dep_graph.proofs.laws.unbent_nodes_keep_their_links.Goals as goal

pub returns : goal.returns
returns c = unbent_links
