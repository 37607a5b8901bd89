use Rattle.shift_core.specs.Form.{form_of}
use Rattle.shift_core.proofs.UnbentBlocks.{unbent_returns}
use Rattle.shift_core.proofs.laws.unbent_blocks_come_back.Goals as goal

pub returns : goal.returns
returns c = λ s. unbent_returns (form_of s)
