use Rattle.marked_values.proofs.Finding.{changed_is_found_alike}
use Rattle.marked_values.proofs.laws.changed_is_found_alike.Goals as goal

pub returns : goal.returns
returns c = changed_is_found_alike
