-- What the counting of days and months promises, in the calendar's words.
use Rattle.std.specs.Prelude.{◌≡◌, ℕ, ◌+◌, ◌-◌, ◌*◌, ◌≤◌, pos}
use Rattle.jiff_core.specs.Calendar.{day_count, days_from_civil, days_in_month, days_of_years, IsCivilDate}
use Rattle.func_date.specs.Calendar.{month_start, calendar_year, calendar_month}
use Rattle.func_date.specs.Dates.{day_number, month_of, place_in_month}
use Rattle.func_date.specs.declared.calendar.TheConstants.{YEARS_BEFORE, DAYS_BEFORE}
use Rattle.func_date.specs.declared.date.TheConstants.{LAST_SERIAL}

-- 400 years have 146,097 days
abbrev pub CyclesRepeat : Type 0
CyclesRepeat = (n : ℕ) → days_of_years (n + 400) ≡ days_of_years n + 146097

-- each month begins where the one before it ends, after as many days as the calendar gives it
abbrev pub MonthsHaveTheirLengths : Type 0
MonthsHaveTheirLengths = (n : ℕ) → month_start (n + 1) ≡ month_start n + days_in_month (calendar_year n) (calendar_month n)

-- from the year 0 on, also past the year 9999, a month begins as many days after January of the year 0 as the
-- calendar has between them
abbrev pub MonthsAreTheCalendars : Type 0
MonthsAreTheCalendars = (y m : ℕ) → 1 ≤ m → m ≤ 12
    → month_start ((y + YEARS_BEFORE) * 12 + (m - 1)) ≡ month_start (YEARS_BEFORE * 12) + (day_count (pos y) m 1 - day_count (pos 0) 1 1)

-- the year, the month and the day of a date are those of the calendar's day
abbrev pub DatesAreTheCalendars : Type 0
DatesAreTheCalendars = (date : ℕ) → date ≤ LAST_SERIAL
    → IsCivilDate (calendar_year (month_of date)) (calendar_month (month_of date)) (place_in_month date + 1)
    × (days_from_civil (calendar_year (month_of date)) (calendar_month (month_of date)) (place_in_month date + 1) ≡ day_number date)

-- the day of serial number 0 is 30 December 1899
abbrev pub SerialsBegin : Type 0
SerialsBegin = month_start ((YEARS_BEFORE + 1899) * 12 + 11) + 29 ≡ DAYS_BEFORE
