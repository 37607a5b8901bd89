use Rattle.recalc_core.proofs.Edits.{cell_changes_alone}
use Rattle.recalc_core.proofs.laws.cell_changes_alone.Goals as goal

pub returns : goal.returns
returns c = cell_changes_alone
