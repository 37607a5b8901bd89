use Rattle.restored_values.proofs.Suspected.{suspects_bring_back}
use Rattle.restored_values.proofs.laws.suspects_bring_back.Goals as goal

pub returns : goal.returns
returns c = suspects_bring_back
