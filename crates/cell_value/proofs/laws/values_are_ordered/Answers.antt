use Rattle.cell_value.proofs.TotalOrder.{values_ordered}
use Rattle.cell_value.proofs.laws.values_are_ordered.Goals as goal

pub returns : goal.returns
returns c = values_ordered
