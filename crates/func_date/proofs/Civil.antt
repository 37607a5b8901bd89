-- The date of a serial number, by its year, its month and its day: for `civil` and for the law of dates.
use Rattle.std.proofs.Common.{◌≡◌, ◌∙◌, sym, ap, subst, refl, inl, inr, ℕ, ◌+◌, ◌-◌, ◌*◌, ◌/◌, ◌%◌, ◌<◌, ◌≤◌, ℤ, pos, negsuc, ◌+ℤ◌, unsigned_abs, arith}
use Rattle.std.proofs.lemmas.Bool.{cases_lt}
use Rattle.jiff_core.specs.Calendar.{day_count, days_from_civil, days_in_month, IsCivilDate}
use Rattle.jiff_core.proofs.CalendarLemmas.{day_count-day, day_count-end, day_count-lt_year, days_from_civil-day_count}
use Rattle.jiff_core.proofs.MarchLemmas.{day_count-early, day_count-late}
use Rattle.jiff_core.proofs.SignedLemmas.{signed_arith}
use Rattle.func_date.specs.Calendar.{calendar_month, calendar_year, days_in_cycle, month_start}
use Rattle.func_date.specs.Dates.{day_number, month_of, place_in_month}
use Rattle.func_date.specs.Laws.{DatesAreTheCalendars, SerialsBegin}
use Rattle.func_date.specs.declared.calendar.TheConstants.{YEARS_BEFORE, DAYS_BEFORE}
use Rattle.func_date.specs.declared.date.TheConstants.{LAST_SERIAL}
use Rattle.func_date.proofs.Months.{first_month, last_begun-is, last_begun-lies, month_start-order, month_start-parts, month_start-year, months_have_their_lengths}

pub origin : day_count (pos 0) 1 1 ≡ 3652425
origin = day_count-early (pos 0) 9999 1 1 refl (omega arith) (omega arith) (omega arith)

pub serials_begin : SerialsBegin
serials_begin =
    let month = month_start-year 1899 11 (omega arith) in
    let day : day_count (pos 1899) 12 1 ≡ 4346355 = day_count-late (pos 1899) 11899 12 1 refl (omega arith) (omega arith) (omega arith) in
    let zero = origin in
    omega arith

-- how many days the calendar's library counts before a day
pub since_first : (y : ℤ) (m d k : ℕ) → days_from_civil y m d +ℤ pos 4371587 ≡ pos k → day_count y m d ≡ k + 366
since_first y m d k e =
    let parts = days_from_civil-day_count y m d in
    omega (arith, signed_arith)

-- the days of a cycle by the library's counts
pub cycle_is : (n a b : ℕ) (y : ℤ) (m d : ℕ) → y ≡ pos (n / 12) → m ≡ n % 12 + 1 → d ≡ 1
    → days_from_civil y m d +ℤ pos 4371587 ≡ pos a → days_from_civil (pos 0) 1 1 +ℤ pos 4371587 ≡ pos b → a - b ≡ days_in_cycle n
cycle_is n a b y m d ye me de first second =
    let here = since_first y m d a first in
    let start = since_first (pos 0) 1 1 b second in
    let same : day_count y m d ≡ day_count (pos (n / 12)) (n % 12 + 1) 1 =
    ap (λ k. day_count k m d) ye ∙ ap (λ k. day_count (pos (n / 12)) k d) me ∙ ap (day_count (pos (n / 12)) (n % 12 + 1)) de in
    omega arith

-- what a date is in the calendar
pub record IsDateOf (date : ℕ) (y : ℤ) (m d : ℕ) : Type 0 where
  pub year : y ≡ calendar_year (month_of date)
  pub month : m ≡ calendar_month (month_of date)
  pub day : d ≡ place_in_month date + 1
  pub months : month_of date + 1 ≡ (unsigned_abs y + YEARS_BEFORE) * 12 + m

-- of a date from the year 0 on
in_year : (date a m d : ℕ) → IsCivilDate (pos a) m d → day_count (pos a) m d ≡ date + 4346384 → IsDateOf date (pos a) m d
in_year date a m d h count =
    let year_in : a ≤ 9999 = omega (arith, signed_arith, h.0.1) in
    let n = (a + YEARS_BEFORE) * 12 + (m - 1) in
    let start = month_start-year a (m - 1) (omega (arith, h.1.0, h.1.1)) in
    let one : m - 1 + 1 ≡ m = omega (arith, h.1.0) in
    let first : day_count (pos a) (m - 1 + 1) 1 ≡ day_count (pos a) m 1 = ap (λ k. day_count (pos a) k 1) one in
    let least = first_month a m h.1.0 h.1.1 in
    let zero = origin in
    let day = day_count-day (pos a) m d 1 h.2.0 (omega arith) in
    let year : calendar_year n ≡ pos a = omega (arith, signed_arith, h.1.0, h.1.1) in
    let month : calendar_month n ≡ m = omega (arith, h.1.0, h.1.1) in
    let length : days_in_month (calendar_year n) (calendar_month n) ≡ days_in_month (pos a) m = ap (λ y. days_in_month y (calendar_month n)) year ∙ ap (days_in_month (pos a)) month in
    let next = months_have_their_lengths n in
    let low : month_start n ≤ date + DAYS_BEFORE = omega (arith, h.2.0) in
    let high : date + DAYS_BEFORE < month_start (n + 1) = omega (arith, h.2.0, h.2.1) in
    let here : month_of date ≡ n = last_begun-is (date + DAYS_BEFORE) ((YEARS_BEFORE + 9999) * 12 + 11) n low high (omega (arith, h.1.1)) in
    record {
      year = sym (ap calendar_year here ∙ year);
      month = sym (ap calendar_month here ∙ month);
      day = let same = ap month_start here in omega (arith, h.2.0);
      months = omega (arith, h.1.0);
    }

pub date_of : (date : ℕ) (y : ℤ) (m d : ℕ) → IsCivilDate y m d → days_from_civil y m d +ℤ pos 4371587 ≡ pos (date + 4346018) → IsDateOf date y m d
date_of date y m d h e = by_sign y h count
  where
    count : day_count y m d ≡ date + 4346384
    count = let first = since_first y m d (date + 4346018) e in omega arith

    by_sign : (z : ℤ) → IsCivilDate z m d → day_count z m d ≡ date + 4346384 → IsDateOf date z m d
    by_sign (pos a) g c = in_year date a m d g c
    by_sign (negsuc a) g c =
        let before = day_count-lt_year (negsuc a) m d (pos 0) 1 1 g (omega arith) (omega (arith, signed_arith)) in
        let zero = origin in
        absurd (omega arith)

-- the month of a date has begun by it and ends after it
lies : (date : ℕ) → date ≤ LAST_SERIAL → (month_start (month_of date) ≤ date + DAYS_BEFORE) × (date + DAYS_BEFORE < month_start (month_of date + 1))
lies date h =
    let last = (YEARS_BEFORE + 9999) * 12 + 11 in
    let first = month_start-parts 0 0 0 0 (omega arith) (omega arith) (omega arith) in
    let found = last_begun-lies (date + DAYS_BEFORE) last (omega arith) in
    let end = month_start-year 10000 0 (omega arith) in
    let days = day_count-end in
    let zero = origin in
    let high : date + DAYS_BEFORE < month_start (month_of date + 1) = elim found.1 [
      | inl o ↦ o
      | inr e ↦
          let n : month_of date + 1 ≡ (10000 + YEARS_BEFORE) * 12 + 0 = omega arith in
          let same = ap month_start n in
          omega arith
    ] in
    (found.0, high)

pub dates_are_the_calendars : DatesAreTheCalendars
dates_are_the_calendars date h =
    let n = month_of date in
    let l = lies date h in
    let low = l.0 in
    let high = l.1 in
    let zero = origin in
    let start = month_start-year 0 0 (omega arith) in
    let from : (0 + YEARS_BEFORE) * 12 + 0 ≤ n = elim (cases_lt n ((0 + YEARS_BEFORE) * 12 + 0)) [
      | inl o ↦ absurd (let order = month_start-order (n + 1) ((0 + YEARS_BEFORE) * 12 + 0) (omega arith) in omega arith)
      | inr o ↦ o
    ] in
    let end = month_start-year 10000 0 (omega arith) in
    let days = day_count-end in
    let until : n < (10000 + YEARS_BEFORE) * 12 + 0 = elim (cases_lt n ((10000 + YEARS_BEFORE) * 12 + 0)) [
      | inl o ↦ o
      | inr o ↦ absurd (let order = month_start-order ((10000 + YEARS_BEFORE) * 12 + 0) n o in omega arith)
    ] in
    let a = n / 12 - YEARS_BEFORE in
    let m = n % 12 in
    let year : calendar_year n ≡ pos a = omega (arith, signed_arith) in
    let here : month_start n ≡ 146097 * 1000000000 + (day_count (pos a) (m + 1) 1 - day_count (pos 0) 1 1) =
    let e : n ≡ (a + YEARS_BEFORE) * 12 + m = omega arith in
    ap month_start e ∙ month_start-year a m (omega arith) in
    let least = first_month a (m + 1) (omega arith) (omega arith) in
    let next = months_have_their_lengths n in
    let length : days_in_month (calendar_year n) (m + 1) ≡ days_in_month (pos a) (m + 1) = ap (λ y. days_in_month y (m + 1)) year in
    let day = day_count-day (pos a) (m + 1) (place_in_month date + 1) 1 (omega arith) (omega arith) in
    let parts = days_from_civil-day_count (pos a) (m + 1) (place_in_month date + 1) in
    let number : days_from_civil (pos a) (m + 1) (place_in_month date + 1) ≡ day_number date = omega (arith, signed_arith) in
    let civil : IsCivilDate (pos a) (m + 1) (place_in_month date + 1) = ((omega (arith, signed_arith), omega (arith, signed_arith)), (omega arith, omega arith), (omega arith, omega arith)) in
    subst (λ y. IsCivilDate y (m + 1) (place_in_month date + 1) × (days_from_civil y (m + 1) (place_in_month date + 1) ≡ day_number date)) (sym year) (civil, number)
