use Rattle.touch_index.specs.internal.Points.{line_in, point_along}
use Rattle.touch_index.proofs.Found.{found_next, on_all, on_none, still_still}
use Rattle.touch_index.proofs.points.Points.find_in.Goals as goal

pub runs-init : goal.runs-init
runs-init c = record { still = λ n h. h; found = λ spot n there sheet h over. on_none (line_in c.args.axis spot) _ h }

pub runs-preserved : goal.runs-preserved
runs-preserved c = record {
  still = still_still c.args.found.now.items c.runs.found.items c.find_run.new.found.items c.runs.invariant.still c.in_ok-find_run.ensures.still;
  found = λ spot n there sheet h over. found_next c.args.runs.now c.runs.run-index _ (line_in c.args.axis spot) n c.runs.found.items c.find_run.new.found.items c.runs-test.true c.in_ok-find_run.ensures.still
      (λ on. c.runs.invariant.found spot n there sheet on over)
      (λ low high. c.in_ok-find_run.ensures.found (point_along c.args.axis spot n) (c.along-points.ensures spot n there) sheet low high over) h;
}

pub returns-clause-still : goal.returns-clause-still
returns-clause-still c = c.runs.invariant.still

pub returns-clause-found : goal.returns-clause-found
returns-clause-found c = λ spot n there sheet h. c.runs.invariant.found spot n there sheet (on_all c.args.runs.now c.runs.run-index (line_in c.args.axis spot) c.runs-test.false h)
