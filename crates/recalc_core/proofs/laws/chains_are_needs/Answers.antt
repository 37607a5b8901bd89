use Rattle.recalc_core.proofs.Bridge.{chains_agree}
use Rattle.recalc_core.proofs.laws.chains_are_needs.Goals as goal

pub returns : goal.returns
returns c = chains_agree
