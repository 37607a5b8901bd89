use Rattle.recalc_core.proofs.Moves.{moves_keep_fit}
use Rattle.recalc_core.proofs.laws.moves_keep_fit.Goals as goal

pub returns : goal.returns
returns c = moves_keep_fit
