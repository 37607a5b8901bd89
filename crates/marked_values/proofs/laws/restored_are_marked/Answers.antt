use Rattle.marked_values.proofs.Restored.{restored_are_marked}
use Rattle.marked_values.proofs.laws.restored_are_marked.Goals as goal

pub returns : goal.returns
returns c = restored_are_marked
