use Rattle.touch_index.specs.internal.Points.{StillFound}
use Rattle.touch_index.proofs.Found.{AreAhead}
use Rattle.touch_index.proofs.points.find_between.Given as goal

-- the points gone by are found, and the others are listed still
abbrev pub invariant-loop-point : goal.invariant-loop-point
invariant-loop-point l = record {
  still : StillFound l.initial.found.items l.found.items;
  ahead : AreAhead l.points l.fn.first l.fn.end l.found.items l.point-iterator;
}
