use Rattle.marked_values.proofs.NameMarks.{removed_follow}
use Rattle.marked_values.proofs.laws.removed_follow.Goals as goal

pub returns : goal.returns
returns c = removed_follow
