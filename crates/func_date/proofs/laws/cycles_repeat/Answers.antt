use Rattle.func_date.proofs.Months.{cycles_repeat}
use Rattle.func_date.proofs.laws.cycles_repeat.Goals as goal

pub returns : goal.returns
returns c = cycles_repeat
