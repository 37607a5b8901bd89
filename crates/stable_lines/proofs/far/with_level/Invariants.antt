use Rattle.std.proofs.Common.{◌≡◌, ◌∷◌, ◌++◌, drop}
use Rattle.stable_lines.specs.internal.Levels.{all_runs}
use Rattle.stable_lines.proofs.far.with_level.Given as goal

abbrev pub invariant-loop-level : goal.invariant-loop-level
invariant-loop-level l = all_runs l.levels.items ++ all_runs (drop l.level-index l.far) ≡ l.fn.table.items ∷ all_runs l.far
