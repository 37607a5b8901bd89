use Rattle.shift_core.proofs.MovedMaps.{get-moved}
use Rattle.shift_core.proofs.laws.moved_entries_are_found.Goals as goal

pub returns : goal.returns
returns g c = λ s m q sound all i. get-moved s m sound all q i
