use Rattle.recalc_core.proofs.Shifted.{shifts_go_back}
use Rattle.recalc_core.proofs.laws.shifts_go_back.Goals as goal

pub returns : goal.returns
returns c = shifts_go_back
