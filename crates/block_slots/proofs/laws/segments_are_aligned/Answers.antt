use Rattle.block_slots.proofs.Aligned.{segments_aligned}
use Rattle.block_slots.proofs.laws.segments_are_aligned.Goals as goal

pub returns : goal.returns
returns c = segments_aligned
