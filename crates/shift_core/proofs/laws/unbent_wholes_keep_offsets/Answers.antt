use Rattle.shift_core.specs.Form.{form_of}
use Rattle.shift_core.proofs.WholeMoves.{unbent_whole_keeps}
use Rattle.shift_core.proofs.laws.unbent_wholes_keep_offsets.Goals as goal

pub returns : goal.returns
returns c = λ s. unbent_whole_keeps (form_of s)
