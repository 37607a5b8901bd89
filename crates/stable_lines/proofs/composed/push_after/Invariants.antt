use Rattle.std.proofs.Common.{◌≡◌, ◌++◌, drop}
use Rattle.stable_lines.specs.internal.Tables.{after_run}
use Rattle.stable_lines.proofs.composed.push_after.Given as goal

abbrev pub invariant-loop-next : goal.invariant-loop-next
invariant-loop-next l = l.table.items ++ after_run l.run (drop l.next-index l.second) ≡ l.initial.table.items ++ after_run l.run l.second
