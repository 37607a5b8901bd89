use Rattle.std.proofs.Common.{◌≡◌, ◌≤◌, true, length}
use Rattle.stable_lines.specs.declared.run.Run.{Run}
use Rattle.stable_lines.specs.internal.Tables.{after_run, is_table}
use Rattle.stable_lines.proofs.composed.ending_behind.Given as goal

abbrev pub invariant-loop-open : goal.invariant-loop-open
invariant-loop-open l = record {
  within : l.open ≤ length l.rest;
  in_order : is_table 0 l.rest ≡ true;
  same : (run : Run) → l.number ≤ run.to → after_run run l.rest ≡ after_run run l.table;
}

abbrev pub decreases-loop-open : goal.decreases-loop-open
decreases-loop-open l = l.open
