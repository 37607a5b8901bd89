use Rattle.marked_values.proofs.Touched.{touched_are_marked}
use Rattle.marked_values.proofs.laws.touched_are_marked.Goals as goal

pub returns : goal.returns
returns c = touched_are_marked
