use Rattle.recalc_core.proofs.Shown.{places_show_kept}
use Rattle.recalc_core.proofs.laws.places_show_kept.Goals as goal

pub returns : goal.returns
returns c = places_show_kept
