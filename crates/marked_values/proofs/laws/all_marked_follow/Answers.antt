use Rattle.marked_values.proofs.Linked.{all_marked}
use Rattle.marked_values.proofs.laws.all_marked_follow.Goals as goal

pub returns : goal.returns
returns c = all_marked
