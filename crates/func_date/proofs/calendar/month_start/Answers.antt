use Rattle.std.proofs.Common.{ap, ◌+◌, ◌*◌, ◌/◌}
use Rattle.func_date.specs.Calendar.{month_start}
use Rattle.func_date.proofs.calendar.month_start.Goals as goal

pub returns-clause-start : goal.returns-clause-start
unfolding month_start
returns-clause-start c = ap (λ days. 146097 * (c.args.n / 4800) + days) c.days_in_cycle.ensures.days
