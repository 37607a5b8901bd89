use Rattle.std.proofs.Common.{◌<◌, ◌≤◌, arith, ⊎_elim}
use Rattle.std.proofs.lemmas.Bool.{cases_lt}
use Rattle.touch_index.proofs.Found.{still_still}
use Rattle.touch_index.proofs.points.find_run.Goals as goal

pub lines-init : goal.lines-init
lines-init c = record { still = λ n h. h; found = λ p there sheet low high on. absurd (omega (arith, low, high)) }

pub lines-preserved : goal.lines-preserved
lines-preserved c = record {
  still = still_still c.args.found.now.items c.lines.found.items c.find_across.new.found.items c.lines.invariant.still c.in_ok-find_across.ensures.still;
  found = λ p there sheet low high on. ⊎_elim
      (λ (before : p.line < c.lines.line). c.in_ok-find_across.ensures.still p.number (c.lines.invariant.found p there sheet low before on))
      (λ (at : c.lines.line ≤ p.line). c.in_ok-find_across.ensures.found p there sheet (omega (arith, at, high)) on)
      (cases_lt p.line c.lines.line);
}

pub returns-clause-still : goal.returns-clause-still
returns-clause-still c = c.lines.invariant.still

pub returns-clause-found : goal.returns-clause-found
returns-clause-found c = λ p there sheet low high on. c.lines.invariant.found p there sheet low (omega (arith, high, c.lines-test.false)) on
