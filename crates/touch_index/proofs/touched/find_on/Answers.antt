use Rattle.std.proofs.Common.{refl}
use Rattle.place_lines.specs.Spots.{spot_of}
use Rattle.touch_index.proofs.Found.{on_ok}
use Rattle.touch_index.proofs.Touching.{on_runs}
use Rattle.touch_index.proofs.touched.find_on.Goals as goal

pub returns-clause-found : goal.returns-clause-found
returns-clause-found c = on_ok c.find_on.result _ _ c.find_on.ensures.found
    (λ found p n there sheet within. found (spot_of c.args.lines.now p) n there sheet
    (on_runs c.args.axis c.args.lines.now p c.args.sheet c.args.span c.args.span c.in_ok-runs.runs.items c.deref.result.now c.in_ok-runs.ensures refl c.deref.ensures.value sheet within.0 within.1))
