use Rattle.cell_addr.proofs.Blocks.{CoversAllOf-from_ends, Encloses-from_places}
use Rattle.cell_addr.proofs.place.Block.contains.Goals as goal

pub returns-else-not-in_order : goal.returns-else-not-in_order
returns-else-not-in_order c =
    let ordered = c.in_order.ensures.0 c.if-not-in_order.false in (
      λ t. CoversAllOf-from_ends _ _ (c.encloses.ensures.0 t),
      λ all. c.encloses.ensures.1 (Encloses-from_places _ _ ordered all),
    )
