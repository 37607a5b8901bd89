use Rattle.marked_values.proofs.Changed.{changes_follow}
use Rattle.marked_values.proofs.laws.changes_follow.Goals as goal

pub returns : goal.returns
returns c = changes_follow
