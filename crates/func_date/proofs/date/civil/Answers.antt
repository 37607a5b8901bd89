use Rattle.func_date.proofs.Civil.{date_of, IsDateOf}
use Rattle.func_date.proofs.date.civil.Goals as goal
use Rattle.func_date.proofs.date.civil.Goals.{After-from_days_since_min}

is_date : (c : After-from_days_since_min) → IsDateOf c.args.date c.from_days_since_min.result.year c.from_days_since_min.result.month c.from_days_since_min.result.day
is_date c =
    let r = c.from_days_since_min.result in
    date_of c.args.date r.year r.month r.day (r.year_in, r.month_in, r.day_in) c.from_days_since_min.ensures

pub returns-clause-year : goal.returns-clause-year
returns-clause-year c = (is_date c).year

pub returns-clause-month : goal.returns-clause-month
returns-clause-month c = (is_date c).month

pub returns-clause-day : goal.returns-clause-day
returns-clause-day c = (is_date c).day

pub returns-clause-months : goal.returns-clause-months
returns-clause-months c = (is_date c).months
