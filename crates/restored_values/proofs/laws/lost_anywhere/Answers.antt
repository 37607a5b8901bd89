use Rattle.restored_values.proofs.LostLinks.{lost_anywhere}
use Rattle.restored_values.proofs.laws.lost_anywhere.Goals as goal

pub returns : goal.returns
returns c = lost_anywhere
