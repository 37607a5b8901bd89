use Rattle.shift_core.proofs.MovedMaps.{restored_moved}
use Rattle.shift_core.proofs.laws.lost_entries_restore.Goals as goal

pub returns : goal.returns
returns g c = λ s m sound all. restored_moved s m sound all
