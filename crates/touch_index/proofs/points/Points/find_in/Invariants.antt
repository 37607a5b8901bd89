use Rattle.std.proofs.Common.{◌≡◌, ℕ, true, take}
use Rattle.needs_order.specs.Needs.{has}
use Rattle.place_lines.specs.Spots.{in_runs}
use Rattle.place_lines.specs.declared.spot.LineSpot.{LineSpot}
use Rattle.touch_index.specs.internal.Points.{StillFound, has_point, line_in, line_over}
use Rattle.touch_index.proofs.points.Points.find_in.Given as goal

-- the numbers on the runs gone by are found
abbrev pub invariant-runs : goal.invariant-runs
invariant-runs l = record {
  still : StillFound l.initial.found.items l.found.items;
  found : (spot : LineSpot) (n : ℕ) → has_point l.self spot n ≡ true → spot.sheet ≡ l.sheet → in_runs (take l.run-index l.runs) (line_in l.fn.axis spot) ≡ true → in_runs l.others (line_over l.fn.axis spot) ≡ true → has n l.found.items ≡ true;
}
