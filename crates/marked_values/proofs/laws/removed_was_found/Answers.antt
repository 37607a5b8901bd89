use Rattle.marked_values.proofs.Finding.{removed_was_found}
use Rattle.marked_values.proofs.laws.removed_was_found.Goals as goal

pub returns : goal.returns
returns c = removed_was_found
