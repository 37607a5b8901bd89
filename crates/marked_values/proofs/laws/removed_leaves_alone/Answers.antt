use Rattle.marked_values.proofs.NameMarks.{removed_leaves_alone}
use Rattle.marked_values.proofs.laws.removed_leaves_alone.Goals as goal

pub returns : goal.returns
returns c = removed_leaves_alone
