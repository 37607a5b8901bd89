use Rattle.shift_core.specs.Form.{form_of}
use Rattle.shift_core.proofs.UnbentBlocks.{unbent_keeps}
use Rattle.shift_core.proofs.laws.unbent_blocks_keep_offsets.Goals as goal

pub returns : goal.returns
returns c = λ s. unbent_keeps (form_of s)
