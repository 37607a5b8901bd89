use Rattle.marked_values.proofs.Changed.{needs_follow}
use Rattle.marked_values.proofs.laws.needs_follow.Goals as goal

pub returns : goal.returns
returns c = needs_follow
