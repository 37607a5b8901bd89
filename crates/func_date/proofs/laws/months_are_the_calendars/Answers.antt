use Rattle.func_date.proofs.Months.{months_are_the_calendars}
use Rattle.func_date.proofs.laws.months_are_the_calendars.Goals as goal

pub returns : goal.returns
returns c = months_are_the_calendars
