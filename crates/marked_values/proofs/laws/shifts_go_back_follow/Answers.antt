use Rattle.marked_values.proofs.GoingBack.{shifts_go_back_follow}
use Rattle.marked_values.proofs.laws.shifts_go_back_follow.Goals as goal

pub returns : goal.returns
returns c = shifts_go_back_follow
