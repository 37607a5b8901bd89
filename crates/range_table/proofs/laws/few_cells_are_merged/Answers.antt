use Rattle.range_table.proofs.Staying.{few_are_merged}
use Rattle.range_table.proofs.laws.few_cells_are_merged.Goals as goal

pub returns : goal.returns
returns c = few_are_merged
