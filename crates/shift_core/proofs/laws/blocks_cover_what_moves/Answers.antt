use Rattle.shift_core.specs.Form.{form_of}
use Rattle.shift_core.proofs.BlockLaws.{block_moved_covers}
use Rattle.shift_core.proofs.laws.blocks_cover_what_moves.Goals as goal

pub returns : goal.returns
returns c = λ s b after q sound keeps i j h. block_moved_covers (form_of s) b after q keeps i j h
