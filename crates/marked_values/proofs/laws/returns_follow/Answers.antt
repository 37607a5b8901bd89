use Rattle.marked_values.proofs.Returning.{returns_follow}
use Rattle.marked_values.proofs.laws.returns_follow.Goals as goal

pub returns : goal.returns
returns c = returns_follow
