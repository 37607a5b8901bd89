use Rattle.restored_values.proofs.LostLinks.{lost_are_seen}
use Rattle.restored_values.proofs.laws.lost_are_seen.Goals as goal

pub returns : goal.returns
returns c = lost_are_seen
