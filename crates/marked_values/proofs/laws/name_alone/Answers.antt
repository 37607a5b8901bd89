use Rattle.marked_values.proofs.Alone.{name_alone}
use Rattle.marked_values.proofs.laws.name_alone.Goals as goal

pub returns : goal.returns
returns c = name_alone
