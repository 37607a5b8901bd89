use Rattle.cell_addr.proofs.Blocks.{CoverOne-from_overlap, Overlap-from_place}
use Rattle.cell_addr.proofs.place.Block.meets.Goals as goal

pub returns : goal.returns
returns c =
    (λ t. CoverOne-from_overlap _ _ (c.overlaps.ensures.0 t), λ m. c.overlaps.ensures.1 (Overlap-from_place _ _ m))
