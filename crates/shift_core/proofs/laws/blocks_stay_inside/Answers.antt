use Rattle.shift_core.specs.Form.{form_of}
use Rattle.shift_core.proofs.BlockLaws.{block_moved_inside, block_returned_inside}
use Rattle.shift_core.proofs.laws.blocks_stay_inside.Goals as goal

pub returns : goal.returns
returns c = λ s b after sound i. (block_moved_inside (form_of s) b after sound i, block_returned_inside (form_of s) b after sound i)
