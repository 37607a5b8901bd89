-- Days and months of the Gregorian calendar over any distance. Both are counted from January of a year so far
-- back that no argument of a function reaches it. Inside of a cycle of 400 years the calendar is that of the
-- kit's `jiff_core`, and after each cycle it begins anew. Source: the calendar's rule of leap years.
use Rattle.std.specs.Prelude.{ℕ, zero, suc, ◌+◌, ◌-◌, ◌*◌, ◌/◌, ◌%◌, nat_le, if◌then◌else◌, ℤ, pos, ◌-ℤ◌}
use Rattle.jiff_core.specs.Calendar.{day_count}
use Rattle.func_date.specs.declared.calendar.TheConstants.{YEARS_BEFORE}

-- how many days of a cycle precede one of its months
abbrev pub days_in_cycle : ℕ → ℕ
days_in_cycle n = day_count (pos (n / 12)) (n % 12 + 1) 1 - day_count (pos 0) 1 1

-- how many days precede a month: a cycle has 4,800 months and 146,097 days
unfoldable pub month_start : ℕ → ℕ
month_start n = 146097 * (n / 4800) + days_in_cycle (n % 4800)

-- of the months up to this one, the last that has begun by a day
unfoldable pub last_begun : ℕ → ℕ → ℕ
last_begun day zero = 0
last_begun day (suc n) = if nat_le (month_start (suc n)) day then suc n else last_begun day n

-- the year of a month, and the month's place in it, from 1
abbrev pub calendar_year : ℕ → ℤ
calendar_year n = pos (n / 12) -ℤ pos YEARS_BEFORE

abbrev pub calendar_month : ℕ → ℕ
calendar_month n = n % 12 + 1
