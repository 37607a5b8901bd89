use Rattle.range_table.proofs.Staying.{nothing_right}
use Rattle.range_table.proofs.ranges.Ranges.clear.Goals as goal

pub returns-clause-right : goal.returns-clause-right
returns-clause-right c = nothing_right
