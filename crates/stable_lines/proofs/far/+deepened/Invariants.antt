use Rattle.std.proofs.Common.{length}
use Rattle.stable_lines.proofs.far.+deepened.Given as goal

abbrev pub decreases-deepened : goal.decreases-deepened
decreases-deepened l = length l.far.now
