-- The functions of dates. A date is a serial number: 0 is 30 December 1899, and the last one 31 December 9999.
-- Source: OpenFormula; its years below 1900 and its limits are this project's own.
use Rattle.std.specs.Prelude.{Bool, false, ◌||◌, if◌then◌else◌, ℕ, ◌+◌, ◌-◌, ◌*◌, ◌%◌, min, nat_lt, ℤ, pos, ◌+ℤ◌, ◌-ℤ◌, ◌*ℤ◌, int_lt, unsigned_abs, List, [], ◌∷◌, Option, codes, bytes_eq, Result, Ok, Err}
use Rattle.std.specs.List.{find}
use Rattle.std.specs.Ordering.{int_eq}
use Rattle.cell_value.specs.declared.argument.Arg.{Arg}
use Rattle.cell_value.specs.declared.fault.FaultKind.{FaultKind}
use Rattle.cell_value.specs.declared.fault.FaultKind.TheVariants.{Na, Num}
use Rattle.cell_value.specs.declared.scalar.Scalar.{Scalar}
use Rattle.fix_num.specs.declared.number.TheConstants.{ONE}
use Rattle.func_args.specs.Answers.{and_then, counted, gives, number_value}
use Rattle.func_args.specs.Signatures.{one_whole}
use Rattle.func_date.specs.declared.calendar.TheConstants.{YEARS_BEFORE, DAYS_BEFORE}
use Rattle.func_date.specs.declared.date.TheConstants.{LAST_SERIAL}
use Rattle.func_date.specs.declared.function.DateFn.{DateFn}
use Rattle.func_date.specs.declared.function.DateFn.TheVariants.{Date, Year, Month, Day, Weekday, Days, EDate, EoMonth, Today}
use Rattle.jiff_core.specs.Calendar.{weekday_number}
use Rattle.func_date.specs.Calendar.{month_start, last_begun, calendar_year, calendar_month}
use Rattle.func_date.specs.Signatures.{two_wholes, three_wholes, whole_and_kind}

-- a date, or #NUM! where the number is none
abbrev pub dated : ℤ → Result ℕ FaultKind
dated serial = if int_lt serial (pos 0) || int_lt (pos LAST_SERIAL) serial then Err Num else Ok (unsigned_abs serial)

-- the year that was given: 1900 is added to one below 1900; #NUM! outside 0 to 9999
abbrev pub year_given : ℤ → Result ℕ FaultKind
year_given year =
    if int_lt year (pos 0) || int_lt (pos 9999) year then Err Num
    else Ok (if nat_lt (unsigned_abs year) 1900 then unsigned_abs year + 1900 else unsigned_abs year)

-- the number of a month of a year; months count on from January
abbrev pub month_number : ℕ → ℤ → ℕ
month_number year month = unsigned_abs ((pos ((year + YEARS_BEFORE) * 12) +ℤ month) -ℤ pos 1)

-- the serial number of a day of a month; days count on from the first
abbrev pub serial_in : ℕ → ℤ → ℤ
serial_in month day = (pos (month_start month) +ℤ day) -ℤ pos (DAYS_BEFORE + 1)

-- the number of the day from 1 January 1970, whose serial number is 25569
abbrev pub day_number : ℕ → ℤ
day_number date = pos date -ℤ pos 25569

-- the month of a date, the last that has begun up to December 9999, the one so many on, and the place of the
-- date in its month, from 0
abbrev pub month_of : ℕ → ℕ
month_of date = last_begun (date + DAYS_BEFORE) ((YEARS_BEFORE + 9999) * 12 + 11)

abbrev pub months_on : ℕ → ℤ → ℕ
months_on date months = unsigned_abs (pos (month_of date) +ℤ months)

abbrev pub place_in_month : ℕ → ℕ
place_in_month date = (date + DAYS_BEFORE) - month_start (month_of date)

-- how many days the month has
abbrev pub length_of : ℕ → ℕ
length_of month = month_start (month + 1) - month_start month

-- the same day so many months on, or the month's last
unfoldable pub day_months_on : ℕ → ℤ → ℤ
day_months_on date months = serial_in (months_on date months) (pos (min (place_in_month date + 1) (length_of (months_on date months))))

-- the last day of the month so many months on
abbrev pub end_months_on : ℕ → ℤ → ℤ
end_months_on date months = serial_in (months_on date months) (pos (length_of (months_on date months)))

-- the day of the week of a date: of kind 1 Sunday is 1 and Saturday 7, of kind 2 Monday is 1 and Sunday 7, of kind 3
-- Monday is 0 and Sunday 6
abbrev pub weekday_of : ℕ → ℤ → Result ℕ FaultKind
weekday_of date kind =
    if int_eq kind (pos ONE) then Ok ((weekday_number (day_number date) + 1) % 7 + 1)
    else (if int_eq kind (pos (2 * ONE)) then Ok (weekday_number (day_number date) + 1)
    else (if int_eq kind (pos (3 * ONE)) then Ok (weekday_number (day_number date))
    else Err Num))

-- a count as a number
abbrev pub counted_answer : Result ℕ FaultKind → Result ℤ FaultKind
counted_answer answer = and_then answer counted

-- DATE(N, N, N)
abbrev pub date_answer : List Arg → Result ℕ FaultKind
date_answer args = and_then (three_wholes args) (λ p. and_then (year_given p.0) (λ year. dated (serial_in (month_number year p.1) p.2)))

-- YEAR(N), MONTH(N), DAY(N)
abbrev pub year_answer : List Arg → Result ℕ FaultKind
year_answer args = and_then (one_whole args) (λ s. and_then (dated s) (λ date. Ok (unsigned_abs (calendar_year (month_of date)))))

abbrev pub month_answer : List Arg → Result ℕ FaultKind
month_answer args = and_then (one_whole args) (λ s. and_then (dated s) (λ date. Ok (calendar_month (month_of date))))

abbrev pub day_answer : List Arg → Result ℕ FaultKind
day_answer args = and_then (one_whole args) (λ s. and_then (dated s) (λ date. Ok (place_in_month date + 1)))

-- WEEKDAY(N [, N])
abbrev pub weekday_answer : List Arg → Result ℕ FaultKind
weekday_answer args = and_then (whole_and_kind args) (λ p. and_then (dated p.0) (λ date. weekday_of date p.1))

-- DAYS(N, N)
abbrev pub days_answer : List Arg → Result ℤ FaultKind
days_answer args = and_then (two_wholes args) (λ p. and_then (dated p.0) (λ a. and_then (dated p.1) (λ b. gives ((pos a -ℤ pos b) *ℤ pos ONE))))

-- EDATE(N, N), EOMONTH(N, N)
abbrev pub edate_answer : List Arg → Result ℕ FaultKind
edate_answer args = and_then (two_wholes args) (λ p. and_then (dated p.0) (λ date. dated (day_months_on date p.1)))

abbrev pub eomonth_answer : List Arg → Result ℕ FaultKind
eomonth_answer args = and_then (two_wholes args) (λ p. and_then (dated p.0) (λ date. dated (end_months_on date p.1)))

-- TODAY()
abbrev pub today_answer : List Arg → ℤ → Result ℕ FaultKind
today_answer [] today = dated today
today_answer _ today = Err Na

-- what each function answers, where the day is today's serial number
abbrev pub answer : DateFn → List Arg → ℤ → Result ℤ FaultKind
answer Date args today = counted_answer (date_answer args)
answer Year args today = counted_answer (year_answer args)
answer Month args today = counted_answer (month_answer args)
answer Day args today = counted_answer (day_answer args)
answer Weekday args today = counted_answer (weekday_answer args)
answer Days args today = days_answer args
answer EDate args today = counted_answer (edate_answer args)
answer EoMonth args today = counted_answer (eomonth_answer args)
answer Today args today = counted_answer (today_answer args today)

-- the value of a function
abbrev pub date_value : DateFn → List Arg → ℤ → Scalar
date_value function args today = number_value (answer function args today)

-- the word of each function
abbrev pub function_word : DateFn → List ℕ
function_word Date = codes "DATE"
function_word Year = codes "YEAR"
function_word Month = codes "MONTH"
function_word Day = codes "DAY"
function_word Weekday = codes "WEEKDAY"
function_word Days = codes "DAYS"
function_word EDate = codes "EDATE"
function_word EoMonth = codes "EOMONTH"
function_word Today = codes "TODAY"

-- all functions of dates
abbrev pub functions : List DateFn
functions = Date ∷ Year ∷ Month ∷ Day ∷ Weekday ∷ Days ∷ EDate ∷ EoMonth ∷ Today ∷ []

-- the function that a word names
abbrev pub function_named : List ℕ → Option DateFn
function_named text = find (λ function. bytes_eq (function_word function) text) functions

-- the argument at this place, from 0, is a list or a block: none is
abbrev pub takes_block : DateFn → ℕ → Bool
takes_block function at = false
