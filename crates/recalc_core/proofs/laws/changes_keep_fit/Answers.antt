use Rattle.recalc_core.proofs.Changes.{changes_keep_fit}
use Rattle.recalc_core.proofs.laws.changes_keep_fit.Goals as goal

pub returns : goal.returns
returns c = changes_keep_fit
