use Rattle.marked_values.proofs.Linked.{anew_inside}
use Rattle.marked_values.proofs.laws.links_are_inside.Goals as goal

pub returns : goal.returns
returns c = anew_inside
