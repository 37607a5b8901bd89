use Rattle.touch_index.proofs.Handing.{handed_on}
use Rattle.touch_index.proofs.laws.blocks_are_handed_on.Goals as goal

pub returns : goal.returns
returns c = handed_on
