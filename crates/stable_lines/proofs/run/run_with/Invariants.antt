use Rattle.std.proofs.Common.{◌≡◌, true, length}
use Rattle.stable_lines.specs.internal.Tables.{is_table, run_with}
use Rattle.stable_lines.proofs.run.run_with.Given as goal

abbrev pub invariant-loop-front : goal.invariant-loop-front
invariant-loop-front l = record { same : run_with l.rest l.number ≡ run_with l.table l.number; in_order : is_table 0 l.rest ≡ true }

abbrev pub decreases-loop-front : goal.decreases-loop-front
decreases-loop-front l = length l.rest
