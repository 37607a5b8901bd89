use Rattle.marked_values.proofs.Rebound.{rebound_leaves_alone}
use Rattle.marked_values.proofs.laws.rebound_leaves_alone.Goals as goal

pub returns : goal.returns
returns c = rebound_leaves_alone
