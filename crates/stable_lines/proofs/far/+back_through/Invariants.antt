use Rattle.std.proofs.Common.{length}
use Rattle.stable_lines.proofs.far.+back_through.Given as goal

abbrev pub decreases-back_through : goal.decreases-back_through
decreases-back_through l = length l.far.now
