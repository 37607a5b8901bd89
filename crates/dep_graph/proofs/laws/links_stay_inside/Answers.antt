use Rattle.dep_graph.proofs.InsideNodes.{links_inside}
use Rattle.dep_graph.proofs.laws.links_stay_inside.Goals as goal

pub returns : goal.returns
returns c = links_inside
