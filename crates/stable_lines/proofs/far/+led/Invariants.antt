use Rattle.std.proofs.Common.{length}
use Rattle.stable_lines.proofs.far.+led.Given as goal

abbrev pub decreases-led : goal.decreases-led
decreases-led l = length l.far.now
