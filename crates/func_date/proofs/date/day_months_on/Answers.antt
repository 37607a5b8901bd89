use Rattle.std.proofs.Common.{◌≡◌, ◌∙◌, ap, ap₂, min, pos}
use Rattle.std.proofs.lemmas.Int.{to_z-of_z}
use Rattle.func_date.specs.Dates.{dated, day_months_on, length_of, months_on, serial_in}
use Rattle.func_date.proofs.date.day_months_on.Goals as goal

pub returns : goal.returns
unfolding day_months_on
returns c =
    let month : c.months_on-month.result ≡ months_on c.args.date c.args.months = c.months_on-month.ensures.month ∙ ap (months_on c.args.date) (to_z-of_z _ _ c.ranges.months) in
    c.placed.ensures
    ∙ ap₂ (λ m d. dated (serial_in m (pos d))) month (c.min-day.ensures ∙ ap₂ min c.day_of_month.ensures.day (c.length_of.ensures.length ∙ ap length_of month))
