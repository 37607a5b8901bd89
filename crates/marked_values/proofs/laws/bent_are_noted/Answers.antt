use Rattle.marked_values.proofs.Touched.{bent_are_noted}
use Rattle.marked_values.proofs.laws.bent_are_noted.Goals as goal

pub returns : goal.returns
returns c = bent_are_noted
