use Rattle.std.proofs.Common.{◌-◌, ◌<◌}
use Rattle.run_walk.proofs.free.free_by.Given as goal

abbrev pub invariant-ahead : goal.invariant-ahead
invariant-ahead g l = 0 < l.ahead

abbrev pub decreases-ahead : goal.decreases-ahead
decreases-ahead g l = l.count - l.ahead
