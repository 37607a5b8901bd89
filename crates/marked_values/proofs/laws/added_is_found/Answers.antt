use Rattle.marked_values.proofs.Finding.{added_is_found}
use Rattle.marked_values.proofs.laws.added_is_found.Goals as goal

pub returns : goal.returns
returns c = added_is_found
