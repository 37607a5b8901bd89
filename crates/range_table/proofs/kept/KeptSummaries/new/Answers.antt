use Rattle.range_table.proofs.Numbers.{nothing_in}
use Rattle.range_table.proofs.kept.KeptSummaries.new.Goals as goal

pub returns : goal.returns
returns c = nothing_in c.in_ok-new.field-0 c.in_ok-new.ensures.keys
