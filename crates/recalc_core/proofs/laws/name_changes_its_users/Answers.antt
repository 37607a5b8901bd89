use Rattle.recalc_core.proofs.Edits.{name_changes_its_users}
use Rattle.recalc_core.proofs.laws.name_changes_its_users.Goals as goal

pub returns : goal.returns
returns c = name_changes_its_users
