use Rattle.cell_value.proofs.Summaries.{summary_of-append}
use Rattle.cell_value.proofs.laws.summaries_join.Goals as goal

pub returns : goal.returns
returns c = summary_of-append
