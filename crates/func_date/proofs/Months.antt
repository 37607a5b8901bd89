-- Months over any distance beside the calendar's days: for the laws, and for the date of a serial number.
use Rattle.std.proofs.Common.{◌≡◌, ◌∙◌, sym, ap, subst, refl, inl, inr, ◌⊎◌, ℕ, zero, suc, ◌+◌, ◌-◌, ◌*◌, ◌/◌, ◌%◌, ◌<◌, ◌≤◌, ◌==◌, nat_le, true, false, ◌||◌, cond, ℤ, pos, negsuc, ◌+ℤ◌, ◌-ℤ◌, arith}
use Rattle.std.proofs.lemmas.Bool.{cases_lt}
use Rattle.std.proofs.lemmas.Bool.Decides.{nat_tests}
use Rattle.jiff_core.specs.Calendar.{day_count, days_in_month, is_leap_year}
use Rattle.jiff_core.proofs.CalendarLemmas.{day_count-day, day_count-last_of_year, day_count-next_month, day_count-next_year, days_in_month_bounds}
use Rattle.jiff_core.proofs.MarchLemmas.{leap_day, day_count-early, day_count-late, days_of_years-march_days}
use Rattle.jiff_core.proofs.SignedLemmas.{signed_arith}
use Rattle.func_date.specs.Calendar.{calendar_month, calendar_year, days_in_cycle, last_begun, month_start}
use Rattle.func_date.specs.Laws.{CyclesRepeat, MonthsAreTheCalendars, MonthsHaveTheirLengths}
use Rattle.func_date.specs.declared.calendar.TheConstants.{YEARS_BEFORE}

-- the rule of leap years is the same after cycles
leap_cycles : (z : ℤ) (y k l : ℕ) → z +ℤ pos (400 * l) ≡ pos (y + 400 * k) → is_leap_year z ≡ is_leap_year (pos y)
leap_cycles (pos a) y k l e = let h : a + 400 * l ≡ y + 400 * k = omega (arith, signed_arith) in grind (arith, nat_tests)
leap_cycles (negsuc a) y k l e = let h : y + 400 * k + suc a ≡ 400 * l = omega (arith, signed_arith) in grind (arith, nat_tests)

length_cycles : (z : ℤ) (y m k l : ℕ) → z +ℤ pos (400 * l) ≡ pos (y + 400 * k) → days_in_month z m ≡ days_in_month (pos y) m
length_cycles z y m k l e = ap (λ b. cond (m == 2) (cond b 29 28) (cond ((m == 4) || (m == 6) || (m == 9) || (m == 11)) 30 31)) (leap_cycles z y k l e)

pub cycles_repeat : CyclesRepeat
cycles_repeat n =
    let leap : leap_day (pos (n + 400)) ≡ leap_day (pos n) = ap (λ b. cond b 1 0) (leap_cycles (pos (n + 400)) n 1 0 (omega (arith, signed_arith))) in
    omega (arith, days_of_years-march_days n, days_of_years-march_days (n + 400))

-- a month of a later cycle
month_cycles : (k y m : ℕ) → 1 ≤ m → m ≤ 12 → day_count (pos (400 * k + y)) m 1 ≡ day_count (pos y) m 1 + 146097 * k
month_cycles k y m low high = elim (cases_lt m 3) [
  | inl h ↦
      let here = day_count-early (pos y) (y + 9999) m 1 (omega (arith, signed_arith)) low (omega arith) (omega arith) in
      let there = day_count-early (pos (400 * k + y)) (400 * k + y + 9999) m 1 (omega (arith, signed_arith)) low (omega arith) (omega arith) in
      omega arith
  | inr h ↦
      let here = day_count-late (pos y) (y + 10000) m 1 (omega (arith, signed_arith)) h high (omega arith) in
      let there = day_count-late (pos (400 * k + y)) (400 * k + y + 10000) m 1 (omega (arith, signed_arith)) h high (omega arith) in
      omega arith
]

-- January of the year 0 is the first
pub first_month : (y m : ℕ) → 1 ≤ m → m ≤ 12 → day_count (pos 0) 1 1 ≤ day_count (pos y) m 1
first_month y m low high =
    let origin = day_count-early (pos 0) 9999 1 1 refl (omega arith) (omega arith) (omega arith) in
    elim (cases_lt m 3) [
      | inl h ↦ let here = day_count-early (pos y) (y + 9999) m 1 (omega (arith, signed_arith)) low (omega arith) (omega arith) in omega arith
      | inr h ↦ let here = day_count-late (pos y) (y + 10000) m 1 (omega (arith, signed_arith)) h high (omega arith) in omega arith
    ]

-- the month at a place of a cycle
pub month_start-parts : (n q y m : ℕ) → m < 12 → y < 400 → n ≡ 4800 * q + (12 * y + m) → month_start n ≡ 146097 * q + (day_count (pos y) (m + 1) 1 - day_count (pos 0) 1 1)
unfolding month_start
month_start-parts n q y m lm ly e =
    let cycle : n / 4800 ≡ q = omega arith in
    let year : n % 4800 / 12 ≡ y = omega arith in
    let month : n % 4800 % 12 ≡ m = omega arith in
    ap (λ c. 146097 * c + days_in_cycle (n % 4800)) cycle
    ∙ ap (λ a. 146097 * q + (day_count (pos a) (n % 4800 % 12 + 1) 1 - day_count (pos 0) 1 1)) year
    ∙ ap (λ a. 146097 * q + (day_count (pos y) (a + 1) 1 - day_count (pos 0) 1 1)) month

-- from the year 0 on
pub month_start-year : (y m : ℕ) → m < 12 → month_start ((y + YEARS_BEFORE) * 12 + m) ≡ 146097 * 1000000000 + (day_count (pos y) (m + 1) 1 - day_count (pos 0) 1 1)
month_start-year y m h =
    let parts = month_start-parts ((y + YEARS_BEFORE) * 12 + m) (1000000000 + y / 400) (y % 400) m h (omega arith) (omega arith) in
    let later = month_cycles (y / 400) (y % 400) (m + 1) (omega arith) (omega arith) in
    let whole : 400 * (y / 400) + y % 400 ≡ y = omega arith in
    let same : day_count (pos (400 * (y / 400) + y % 400)) (m + 1) 1 ≡ day_count (pos y) (m + 1) 1 = ap (λ a. day_count (pos a) (m + 1) 1) whole in
    let least = first_month (y % 400) (m + 1) (omega arith) (omega arith) in
    omega arith

pub months_are_the_calendars : MonthsAreTheCalendars
months_are_the_calendars y m low high =
    let here = month_start-year y (m - 1) (omega arith) in
    let origin = month_start-year 0 0 (omega arith) in
    let one : m - 1 + 1 ≡ m = omega arith in
    let same : day_count (pos y) (m - 1 + 1) 1 ≡ day_count (pos y) m 1 = ap (λ a. day_count (pos y) a 1) one in
    let start : (0 + YEARS_BEFORE) * 12 + 0 ≡ YEARS_BEFORE * 12 = omega arith in
    let first = ap month_start start in
    omega arith

-- the month after a month of a year
next_month : (y m : ℕ) → m < 11 → day_count (pos y) (m + 2) 1 ≡ day_count (pos y) (m + 1) 1 + days_in_month (pos y) (m + 1)
next_month y m h =
    let e : m + 1 + 1 ≡ m + 2 = omega arith in
    sym (ap (λ a. day_count (pos y) a 1) e) ∙ day_count-next_month (pos y) (m + 1) (omega arith)

next_year : (y : ℕ) → day_count (pos (y + 1)) 1 1 ≡ day_count (pos y) 12 1 + 31
next_year y =
    omega (arith, day_count-next_year (pos y) (pos (y + 1)) (omega (arith, signed_arith)) (omega (arith, signed_arith)), day_count-last_of_year (pos y), day_count-day (pos y) 12 1 31 (omega arith) (omega arith))

-- the calendar's length of a month, by its place in its cycle
length_at : (n : ℕ) → days_in_month (calendar_year n) (calendar_month n) ≡ days_in_month (pos (n % 4800 / 12)) (n % 4800 % 12 + 1)
length_at n =
    let year : pos (n / 12) -ℤ pos YEARS_BEFORE +ℤ pos (400 * 1000000000) ≡ pos (n % 4800 / 12 + 400 * (n / 4800)) = omega (arith, signed_arith) in
    let month : n % 12 + 1 ≡ n % 4800 % 12 + 1 = omega arith in
    length_cycles (calendar_year n) (n % 4800 / 12) (n % 12 + 1) (n / 4800) 1000000000 year
    ∙ ap (days_in_month (pos (n % 4800 / 12))) month

pub months_have_their_lengths : MonthsHaveTheirLengths
months_have_their_lengths n =
    let q = n / 4800 in
    let y = n % 4800 / 12 in
    let m = n % 4800 % 12 in
    let here = month_start-parts n q y m (omega arith) (omega arith) (omega arith) in
    let length = length_at n in
    let least = first_month y (m + 1) (omega arith) (omega arith) in
    elim (cases_lt m 11) [
      | inl h ↦
          let there = month_start-parts (n + 1) q y (m + 1) (omega arith) (omega arith) (omega arith) in
          let two : m + 1 + 1 ≡ m + 2 = omega arith in
          let same : day_count (pos y) (m + 1 + 1) 1 ≡ day_count (pos y) (m + 2) 1 = ap (λ a. day_count (pos y) a 1) two in
          let next = next_month y m h in
          omega arith
      | inr h ↦
          let last : m ≡ 11 = omega arith in
          let twelve : m + 1 ≡ 12 = omega arith in
          let same : day_count (pos y) (m + 1) 1 ≡ day_count (pos y) 12 1 = ap (λ a. day_count (pos y) a 1) twelve in
          let days : days_in_month (pos y) (m + 1) ≡ 31 = ap (days_in_month (pos y)) twelve in
          let next = next_year y in
          elim (cases_lt y 399) [
            | inl l ↦
                let there = month_start-parts (n + 1) q (y + 1) 0 (omega arith) (omega arith) (omega arith) in
                omega arith
            | inr l ↦
                let there = month_start-parts (n + 1) (q + 1) 0 0 (omega arith) (omega arith) (omega arith) in
                let cycle = month_cycles 1 0 1 (omega arith) (omega arith) in
                let end : y + 1 ≡ 400 * 1 + 0 = omega arith in
                let first : day_count (pos (y + 1)) 1 1 ≡ day_count (pos (400 * 1 + 0)) 1 1 = ap (λ a. day_count (pos a) 1 1) end in
                omega arith
          ]
    ]

-- months begin one after another
month_start-later : (n k : ℕ) → month_start n + 28 * k ≤ month_start (n + k)
month_start-later n zero = let e = ap month_start (same n) in omega arith
  where
    same : (m : ℕ) → m + 0 ≡ m
    same m = omega arith
month_start-later n (suc k) =
    let rest = month_start-later n k in
    let step = months_have_their_lengths (n + k) in
    let some = days_in_month_bounds (calendar_year (n + k)) (calendar_month (n + k)) in
    let next : n + k + 1 ≡ n + suc k = omega arith in
    let same = ap month_start next in
    omega arith

pub month_start-order : (a b : ℕ) → a ≤ b → month_start a ≤ month_start b
month_start-order a b h =
    let later = month_start-later a (b - a) in
    let e : a + (b - a) ≡ b = omega arith in
    let same = ap month_start e in
    omega arith

-- a day that lies in a month has it as its last month that has begun
pub last_begun-is : (day n m : ℕ) → month_start m ≤ day → day < month_start (m + 1) → m ≤ n → last_begun day n ≡ m
unfolding last_begun
last_begun-is day zero m low high le = omega arith
last_begun-is day (suc n) m low high le = elim (cases_lt day (month_start (suc n))) [
  | inl later ↦
      let test : nat_le (month_start (suc n)) day ≡ false = grind (arith, nat_tests) in
      let before : m ≤ n = elim (cases_lt n m) [
        | inl l ↦ let e : m ≡ suc n = omega arith in absurd (let same = ap month_start e in omega arith)
        | inr l ↦ l
      ] in
      ap (λ b. cond b (suc n) (last_begun day n)) test ∙ last_begun-is day n m low high before
  | inr begun ↦
      let test : nat_le (month_start (suc n)) day ≡ true = grind (arith, nat_tests) in
      let same : suc n ≡ m = elim (cases_lt m (suc n)) [
        | inl l ↦ absurd (let o = month_start-order (m + 1) (suc n) (omega arith) in omega arith)
        | inr l ↦ omega arith
      ] in
      ap (λ b. cond b (suc n) (last_begun day n)) test ∙ same
]

-- a day lies in its last month that has begun, or after it where that is the last of all
pub last_begun-lies : (day n : ℕ) → month_start 0 ≤ day → (month_start (last_begun day n) ≤ day) × ((day < month_start (last_begun day n + 1)) ⊎ (last_begun day n ≡ n))
unfolding last_begun
last_begun-lies day zero h = (h, inr refl)
last_begun-lies day (suc n) h = elim (cases_lt day (month_start (suc n))) [
  | inl later ↦
      let test : nat_le (month_start (suc n)) day ≡ false = grind (arith, nat_tests) in
      let rest = last_begun-lies day n h in
      let here = ap (λ b. cond b (suc n) (last_begun day n)) test in
      subst (λ l. (month_start l ≤ day) × ((day < month_start (l + 1)) ⊎ (l ≡ suc n))) (sym here) (rest.0, inl (ends n later rest.1))
  | inr begun ↦
      let test : nat_le (month_start (suc n)) day ≡ true = grind (arith, nat_tests) in
      let here = ap (λ b. cond b (suc n) (last_begun day n)) test in
      subst (λ l. (month_start l ≤ day) × ((day < month_start (l + 1)) ⊎ (l ≡ suc n))) (sym here) (begun, inr refl)
]
  where
    ends : (m : ℕ) → day < month_start (suc m) → (day < month_start (last_begun day m + 1)) ⊎ (last_begun day m ≡ m) → day < month_start (last_begun day m + 1)
    ends m later (inl o) = o
    ends m later (inr e) = let next : suc m ≡ last_begun day m + 1 = omega arith in subst (λ k. day < month_start k) next later

-- a cycle has 146,097 days
pub cycle_days : (n : ℕ) → n < 4800 → days_in_cycle n < 146097
cycle_days n h =
    let origin = day_count-early (pos 0) 9999 1 1 refl (omega arith) (omega arith) (omega arith) in
    elim (cases_lt (n % 12 + 1) 3) [
      | inl l ↦ let here = day_count-early (pos (n / 12)) (n / 12 + 9999) (n % 12 + 1) 1 (omega (arith, signed_arith)) (omega arith) (omega arith) (omega arith) in omega arith
      | inr l ↦ let here = day_count-late (pos (n / 12)) (n / 12 + 10000) (n % 12 + 1) 1 (omega (arith, signed_arith)) l (omega arith) (omega arith) in omega arith
    ]

-- a month has at most 31 days
pub month_days : (n : ℕ) → month_start (n + 1) - month_start n ≤ 31
month_days n =
    let next = months_have_their_lengths n in
    let most = days_in_month_bounds (calendar_year n) (calendar_month n) in
    omega arith
