use Rattle.std.proofs.Common.{length}
use Rattle.stable_lines.proofs.far.+through.Given as goal

abbrev pub decreases-through : goal.decreases-through
decreases-through l = length l.far.now
