use Rattle.marked_values.proofs.NameMarks.{linked_or_marked}
use Rattle.marked_values.proofs.laws.linked_or_marked.Goals as goal

pub returns : goal.returns
returns c = linked_or_marked
