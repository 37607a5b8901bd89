use Rattle.shift_core.specs.Form.{form_of}
use Rattle.shift_core.proofs.WholeMoves.{whole_moved_inside, whole_returned_inside}
use Rattle.shift_core.proofs.laws.wholes_stay_inside.Goals as goal

pub returns : goal.returns
returns c = λ s w v sound i. (whole_moved_inside (form_of s) w v sound i, whole_returned_inside (form_of s) w v sound i)
