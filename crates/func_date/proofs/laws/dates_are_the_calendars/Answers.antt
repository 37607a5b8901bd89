use Rattle.func_date.proofs.Civil.{dates_are_the_calendars}
use Rattle.func_date.proofs.laws.dates_are_the_calendars.Goals as goal

pub returns : goal.returns
returns c = dates_are_the_calendars
