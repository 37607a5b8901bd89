use Rattle.std.proofs.Common.{◌≡◌, ℕ, true, take}
use Rattle.block_index.specs.Index.{finds}
use Rattle.place_lines.specs.Spots.{in_runs}
use Rattle.touch_index.specs.internal.Points.{FindsStill}
use Rattle.touch_index.proofs.index.file_runs.Given as goal

-- the lines of the runs gone by find the number
abbrev pub invariant-runs : goal.invariant-runs
invariant-runs l = record {
  grown : FindsStill l.initial.index l.index;
  filed : (line : ℕ) → in_runs (take l.run-index l.runs) line ≡ true → finds l.index l.sheet line 0 l.number ≡ true;
}
