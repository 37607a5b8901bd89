use Rattle.marked_values.proofs.Alone.{cells_alone}
use Rattle.marked_values.proofs.laws.cells_alone.Goals as goal

pub returns : goal.returns
returns c = cells_alone
