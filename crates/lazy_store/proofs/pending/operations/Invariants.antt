use Rattle.std.proofs.Common.{◌≡◌, ◌+◌, length}
use Rattle.shift_line.specs.Track.{IsRun}
use Rattle.lazy_store.proofs.pending.operations.Given as goal

-- the operations gone by lead from the first position here
abbrev pub invariant-operations : goal.invariant-operations
invariant-operations l = record {
  run : IsRun l.line l.from l.run.items;
  here : l.from + length l.run.items ≡ l.position;
}
