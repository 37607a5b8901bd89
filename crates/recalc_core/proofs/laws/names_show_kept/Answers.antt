use Rattle.recalc_core.proofs.Shown.{names_show_kept}
use Rattle.recalc_core.proofs.laws.names_show_kept.Goals as goal

pub returns : goal.returns
returns c = names_show_kept
