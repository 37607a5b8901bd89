use Rattle.marked_values.proofs.NameMarks.{added_leaves_alone}
use Rattle.marked_values.proofs.laws.added_leaves_alone.Goals as goal

pub returns : goal.returns
returns c = added_leaves_alone
