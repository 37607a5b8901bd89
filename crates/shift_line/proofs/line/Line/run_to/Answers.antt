use Rattle.std.proofs.Common.{◌∙◌, ap, arith, ◌+◌, ◌-◌, length}
use Rattle.shift_line.specs.Track.{Track}
use Rattle.shift_line.proofs.Runs.{run-back-to, run-front-to}
use Rattle.shift_line.proofs.line.Line.run_to.Goals as goal

pub returns-then-end-front-clause-run : goal.returns-then-end-front-clause-run
returns-then-end-front-clause-run c =
    let t = c.args.self.now in
    let first = ap (λ (x : Track). x.first) c.self.view_is in
    let shifts = ap (λ (x : Track). x.shifts) c.self.view_is in
    let count = ap length shifts in
    let start = c.max-start.result - c.self.inside.first in
    let end = c.args.to - c.self.inside.first in
    run-front-to t c.as_slices.result.0.now c.as_slices.result.1.now (c.as_slices.ensures.items ∙ shifts) c.max-start.result start end (omega (arith, first)) (omega arith) c.args.to (omega (arith, first)) (omega arith) (omega (arith, first, count))

pub returns-else-end-front-clause-run : goal.returns-else-end-front-clause-run
returns-else-end-front-clause-run c =
    let t = c.args.self.now in
    let first = ap (λ (x : Track). x.first) c.self.view_is in
    let shifts = ap (λ (x : Track). x.shifts) c.self.view_is in
    let count = ap length shifts in
    let end = c.args.to - c.self.inside.first in
    run-back-to t c.as_slices.result.0.now c.as_slices.result.1.now (c.as_slices.ensures.items ∙ shifts) (c.self.inside.first + c.max.result) c.max.result end (omega (arith, first)) (omega arith) c.args.to (omega (arith, first)) (omega arith) (omega (arith, first, count))
