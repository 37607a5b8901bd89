use Rattle.marked_values.proofs.NameMarks.{changed_follow}
use Rattle.marked_values.proofs.laws.changed_follow.Goals as goal

pub returns : goal.returns
returns c = changed_follow
