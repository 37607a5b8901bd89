use Rattle.cell_value.proofs.TotalOrder.{each_two}
use Rattle.cell_value.proofs.laws.each_two_compare.Goals as goal

pub returns : goal.returns
returns c = each_two
