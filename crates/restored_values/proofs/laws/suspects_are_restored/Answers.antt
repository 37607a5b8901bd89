use Rattle.restored_values.proofs.Suspected.{suspects_are_restored}
use Rattle.restored_values.proofs.laws.suspects_are_restored.Goals as goal

pub returns : goal.returns
returns c = suspects_are_restored
