use Rattle.touch_index.proofs.Found.{found_next, on_all, on_none, still_still}
use Rattle.touch_index.proofs.points.find_across.Goals as goal

pub runs-init : goal.runs-init
runs-init c = record { still = λ n h. h; found = λ p there sheet line h. on_none p.across _ h }

pub runs-preserved : goal.runs-preserved
runs-preserved c = record {
  still = still_still c.args.found.now.items c.runs.found.items c.find_part.new.found.items c.runs.invariant.still c.in_ok-find_part.ensures.still;
  found = λ p there sheet line. found_next c.args.across.now c.runs.run-index _ p.across p.number c.runs.found.items c.find_part.new.found.items c.runs-test.true c.in_ok-find_part.ensures.still
      (c.runs.invariant.found p there sheet line) (c.in_ok-find_part.ensures.found p there sheet line);
}

pub returns-clause-still : goal.returns-clause-still
returns-clause-still c = c.runs.invariant.still

pub returns-clause-found : goal.returns-clause-found
returns-clause-found c = λ p there sheet line h. c.runs.invariant.found p there sheet line (on_all c.args.across.now c.runs.run-index p.across c.runs-test.false h)
