use Rattle.recalc_core.proofs.Bridge.{cycles_are_same}
use Rattle.recalc_core.proofs.laws.cycles_agree.Goals as goal

pub returns : goal.returns
returns c = cycles_are_same
