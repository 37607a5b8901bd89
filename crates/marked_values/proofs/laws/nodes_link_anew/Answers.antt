use Rattle.marked_values.proofs.Linked.{link_anew}
use Rattle.marked_values.proofs.laws.nodes_link_anew.Goals as goal

pub returns : goal.returns
returns c = link_anew
