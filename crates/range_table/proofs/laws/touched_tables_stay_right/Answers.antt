use Rattle.range_table.proofs.Staying.{touched_stay_right}
use Rattle.range_table.proofs.laws.touched_tables_stay_right.Goals as goal

pub returns : goal.returns
returns c = touched_stay_right
