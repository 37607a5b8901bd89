use Rattle.cell_addr.proofs.SamePlaces.{same_place-decides, same_block-decides, same_whole-decides}
use Rattle.cell_addr.proofs.laws.same_is_equal.Goals as goal

pub returns : goal.returns
returns c = (same_place-decides, same_block-decides, same_whole-decides)
