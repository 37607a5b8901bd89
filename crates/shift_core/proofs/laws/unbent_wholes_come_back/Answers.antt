use Rattle.shift_core.specs.Form.{form_of}
use Rattle.shift_core.proofs.WholeMoves.{unbent_whole_returns}
use Rattle.shift_core.proofs.laws.unbent_wholes_come_back.Goals as goal

pub returns : goal.returns
returns c = λ s. unbent_whole_returns (form_of s)
