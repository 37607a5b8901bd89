use Rattle.marked_values.proofs.NameMarks.{added_follow}
use Rattle.marked_values.proofs.laws.added_follow.Goals as goal

pub returns : goal.returns
returns c = added_follow
