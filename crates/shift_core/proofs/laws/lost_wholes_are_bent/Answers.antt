use Rattle.shift_core.specs.Form.{form_of}
use Rattle.shift_core.proofs.WholeMoves.{lost_whole_bent}
use Rattle.shift_core.proofs.laws.lost_wholes_are_bent.Goals as goal

pub returns : goal.returns
returns c = λ s. lost_whole_bent (form_of s)
