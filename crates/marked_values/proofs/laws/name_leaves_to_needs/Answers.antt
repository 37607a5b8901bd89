use Rattle.marked_values.proofs.Rebound.{name_leaves_to_needs}
use Rattle.marked_values.proofs.laws.name_leaves_to_needs.Goals as goal

pub returns : goal.returns
returns c = name_leaves_to_needs
