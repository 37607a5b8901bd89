use Rattle.shift_core.specs.Form.{form_of}
use Rattle.shift_core.proofs.WholeMoves.{whole_moves_as_block, whole_returns_as_block}
use Rattle.shift_core.proofs.laws.wholes_move_as_blocks.Goals as goal

pub returns : goal.returns
returns c = λ s w sound apart. (whole_moves_as_block (form_of s) w sound apart, whole_returns_as_block (form_of s) w sound apart)
