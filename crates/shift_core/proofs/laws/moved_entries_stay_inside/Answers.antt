use Rattle.shift_core.proofs.MovedMaps.{moved_inside}
use Rattle.shift_core.proofs.laws.moved_entries_stay_inside.Goals as goal

pub returns : goal.returns
returns g c = λ s m sound all. moved_inside s m sound all
