use Rattle.std.proofs.Common.{◌+◌, ◌-◌, ◌≤◌}
use Rattle.place_lines.proofs.Numbers.{AreNumbersBefore}
use Rattle.place_lines.proofs.lines.PlaceLines.runs.Given as goal

abbrev pub invariant-walk : goal.invariant-walk
invariant-walk l = record {
  from : l.fn.span.first ≤ l.at;
  within : l.at ≤ l.fn.span.first + (l.end - l.fn.span.first);
  numbers : AreNumbersBefore l.table l.fn.span.first l.at l.runs.items;
}

abbrev pub decreases-walk : goal.decreases-walk
decreases-walk l = l.end - l.at
