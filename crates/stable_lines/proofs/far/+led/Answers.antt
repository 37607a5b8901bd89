use Rattle.std.proofs.Common.{◌≡◌, ◌∙◌, ◌∷◌, sym, ap, subst, Some}
use Rattle.stable_lines.specs.internal.Levels.{IsLed, all_runs}
use Rattle.stable_lines.specs.internal.Tables.{run_with}
use Rattle.stable_lines.proofs.Leading.{if_some_weaker, part_led}
use Rattle.stable_lines.proofs.far.+led.Goals as goal

pub returns-in_ok-next-in-Some-clause-led : goal.returns-in_ok-next-in-Some-clause-led
returns-in_ok-next-in-Some-clause-led t c =
    let level = c.runs.result.now in
    let farther = all_runs c.in-Some.farther.now in
    let next = c.in_ok-next-in-Some.next in
    let part = c.part_from.result in
    let all : level ∷ farther ≡ all_runs c.args.far.now = ap (λ r. r ∷ farther) c.runs.ensures.runs ∙ sym (ap all_runs c.in-Some.ensures.cases.0) in
    let there : run_with level c.args.run.to ≡ Some next = sym c.in_ok-next-in-Some.ensures.run in
    if_some_weaker c.led.result (IsLed farther part) (IsLed (all_runs c.args.far.now) c.args.run)
    (λ led h. subst (λ ts. IsLed ts c.args.run led) all (part_led level farther c.args.run next part c.runs.ensures.table there c.in_ok-next-in-Some.ensures.found c.part_from.ensures.from c.part_from.ensures.to c.part_from.ensures.count led h))
    c.led.ensures.led
