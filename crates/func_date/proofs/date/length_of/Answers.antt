use Rattle.std.proofs.Common.{arith}
use Rattle.func_date.proofs.Months.{month_days}
use Rattle.func_date.proofs.date.length_of.Goals as goal

pub returns-clause-small : goal.returns-clause-small
returns-clause-small c = let most = month_days c.args.month in omega arith
