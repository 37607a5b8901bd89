use Rattle.std.proofs.Common.{◌≡◌, ◌∙◌, ◌∷◌, sym, ap, subst, Some}
use Rattle.stable_lines.specs.internal.Levels.{IsLed, all_runs, runs_of}
use Rattle.stable_lines.specs.internal.Tables.{run_with}
use Rattle.stable_lines.proofs.Leading.{if_some_weaker, part_led}
use Rattle.stable_lines.proofs.levels.LineLevels.led.Goals as goal

pub returns-clause-led : goal.returns-clause-led
returns-clause-led c =
    let level = c.runs.result.now in
    let farther = all_runs c.deref-2.result.now in
    let next = c.in_ok-next.next in
    let part = c.part_from.result in
    let inside = c.self.inside in
    let far : farther ≡ all_runs inside.far.value.items = ap all_runs (c.deref-2.ensures.value ∙ ap (λ v. v.items) c.deref.ensures) in
    let all : level ∷ farther ≡ runs_of inside.near ∷ all_runs inside.far.value.items = ap (λ r. r ∷ farther) c.runs.ensures.runs ∙ ap (λ fs. runs_of inside.near ∷ fs) far in
    let there : run_with level c.args.run.to ≡ Some next = sym c.in_ok-next.ensures.run in
    rw (← c.self.view_is)
    (if_some_weaker c.led.result (IsLed farther part) (IsLed (runs_of inside.near ∷ all_runs inside.far.value.items) c.args.run)
    (λ led h. subst (λ ts. IsLed ts c.args.run led) all (part_led level farther c.args.run next part c.runs.ensures.table there c.in_ok-next.ensures.found c.part_from.ensures.from c.part_from.ensures.to c.part_from.ensures.count led h))
    c.led.ensures.led)
