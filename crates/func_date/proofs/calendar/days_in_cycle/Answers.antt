use Rattle.std.proofs.Common.{◌≡◌, ◌<◌, ◌∙◌, ◌/◌, ◌%◌, ◌+◌, ap₂, arith, ℕ, ◌-◌, min, ℤ, pos, to_z, w16}
use Rattle.std.proofs.lemmas.Int.{ints}
use Rattle.jiff_core.specs.Calendar.{days_in_month}
use Rattle.jiff_core.proofs.CalendarLemmas.{days_in_month_bounds}
use Rattle.func_date.specs.Calendar.{days_in_cycle}
use Rattle.func_date.proofs.Civil.{cycle_is}
use Rattle.func_date.proofs.Months.{cycle_days}
use Rattle.func_date.proofs.calendar.days_in_cycle.Goals as goal

-- the year keeps its number in 16 bits, and the first day is the first
year : (n : ℕ) → n < 4800 → to_z w16 (n / 12) ≡ pos (n / 12)
year n h = omega (arith, ints)

day : (y : ℤ) (m : ℕ) → min 1 (days_in_month y m) ≡ 1
day y m = let least = days_in_month_bounds y m in omega arith

pub returns-clause-days : goal.returns-clause-days
returns-clause-days c =
    let first = c.constrain-first.ensures in
    c.saturating_sub.ensures ∙ ap₂ (λ a b. a - b) c.from.ensures c.from-2.ensures
    ∙ cycle_is c.args.n c.days_since_min.result c.days_since_min-2.result c.constrain-first.result.year c.constrain-first.result.month c.constrain-first.result.day
    (first.year ∙ year c.args.n c.requires) first.month (first.day ∙ day (to_z w16 (c.args.n / 12)) (c.args.n % 12 + 1)) c.days_since_min.ensures.value c.days_since_min-2.ensures.value

pub returns-clause-small : goal.returns-clause-small
returns-clause-small c =
    let same : c.saturating_sub.result ≡ days_in_cycle c.args.n = returns-clause-days c in
    let few = cycle_days c.args.n c.requires in
    omega arith
