use Rattle.recalc_core.proofs.Shown.{all_marked_fit}
use Rattle.recalc_core.proofs.laws.all_marked_fit.Goals as goal

pub returns : goal.returns
returns c = all_marked_fit
