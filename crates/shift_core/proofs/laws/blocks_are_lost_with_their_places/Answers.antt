use Rattle.shift_core.specs.Form.{form_of}
use Rattle.shift_core.proofs.BlockLaws.{block_moved_lost}
use Rattle.shift_core.proofs.laws.blocks_are_lost_with_their_places.Goals as goal

pub returns : goal.returns
returns c = λ s b sound keeps i. block_moved_lost (form_of s) b keeps i
