use Rattle.marked_values.proofs.Fitting.{right_follow}
use Rattle.marked_values.proofs.laws.right_follow.Goals as goal

pub returns : goal.returns
returns c = right_follow
