use Rattle.std.proofs.Common.{◌≡◌, ◌++◌, drop}
use Rattle.stable_lines.specs.internal.Tables.{composed}
use Rattle.stable_lines.proofs.composed.composed.Given as goal

abbrev pub invariant-loop-run : goal.invariant-loop-run
invariant-loop-run l = l.table.items ++ composed (drop l.run-index l.first) l.second ≡ composed l.first l.second
