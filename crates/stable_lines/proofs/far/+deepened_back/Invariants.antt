use Rattle.std.proofs.Common.{length}
use Rattle.stable_lines.proofs.far.+deepened_back.Given as goal

abbrev pub decreases-deepened_back : goal.decreases-deepened_back
decreases-deepened_back l = length l.far.now
