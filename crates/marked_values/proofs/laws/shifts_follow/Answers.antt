use Rattle.marked_values.proofs.AfterShift.{shifts_follow}
use Rattle.marked_values.proofs.laws.shifts_follow.Goals as goal

pub returns : goal.returns
returns c = shifts_follow
