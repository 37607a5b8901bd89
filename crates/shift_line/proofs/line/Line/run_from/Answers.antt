use Rattle.std.proofs.Common.{◌∙◌, ap, arith, ◌-◌, length}
use Rattle.shift_line.specs.Track.{Track}
use Rattle.shift_line.proofs.Runs.{run-back, run-front}
use Rattle.shift_line.proofs.line.Line.run_from.Goals as goal

pub returns-then-start-front-clause-run : goal.returns-then-start-front-clause-run
returns-then-start-front-clause-run c =
    let t = c.args.self.now in
    let first = ap (λ (x : Track). x.first) c.self.view_is in
    let shifts = ap (λ (x : Track). x.shifts) c.self.view_is in
    let count = ap length shifts in
    let start = c.args.from - c.self.inside.first in
    run-front t c.as_slices.result.0.now c.as_slices.result.1.now (c.as_slices.ensures.items ∙ shifts) c.args.from start c.min.result (omega (arith, first)) (omega arith) (omega arith) (omega (arith, first, count))

pub returns-else-start-front-clause-run : goal.returns-else-start-front-clause-run
returns-else-start-front-clause-run c =
    let t = c.args.self.now in
    let first = ap (λ (x : Track). x.first) c.self.view_is in
    let shifts = ap (λ (x : Track). x.shifts) c.self.view_is in
    let count = ap length shifts in
    let start = c.args.from - c.self.inside.first in
    run-back t c.as_slices.result.0.now c.as_slices.result.1.now (c.as_slices.ensures.items ∙ shifts) c.args.from start (c.min-end.result - c.self.inside.first) (omega (arith, first)) (omega arith) (omega arith) (omega (arith, first, count))
