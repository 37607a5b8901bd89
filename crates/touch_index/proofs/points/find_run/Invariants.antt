use Rattle.std.proofs.Common.{◌≡◌, ◌<◌, ◌≤◌, true}
use Rattle.std.specs.BTreeSet.{contains}
use Rattle.needs_order.specs.Needs.{has}
use Rattle.place_lines.specs.Spots.{in_runs}
use Rattle.touch_index.specs.declared.point.Point.{Point}
use Rattle.touch_index.specs.internal.Points.{StillFound, point_cmp}
use Rattle.touch_index.proofs.points.find_run.Given as goal

-- the points on the lines gone by are found
abbrev pub invariant-lines : goal.invariant-lines
invariant-lines l = record {
  still : StillFound l.initial.found.items l.found.items;
  found : (p : Point) → contains point_cmp l.points p ≡ true → p.sheet ≡ l.sheet → l.fn.run.start ≤ p.line → p.line < l.line → in_runs l.across p.across ≡ true → has p.number l.found.items ≡ true;
}
