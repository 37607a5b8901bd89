use Rattle.marked_values.proofs.NameMarks.{changed_leaves_to_needs}
use Rattle.marked_values.proofs.laws.changed_leaves_to_needs.Goals as goal

pub returns : goal.returns
returns c = changed_leaves_to_needs
