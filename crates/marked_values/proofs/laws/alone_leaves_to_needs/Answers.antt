use Rattle.marked_values.proofs.Changed.{alone_leaves_to_needs}
use Rattle.marked_values.proofs.laws.alone_leaves_to_needs.Goals as goal

pub returns : goal.returns
returns c = alone_leaves_to_needs
