use Rattle.std.proofs.Common.{arith}
use Rattle.kept_steps.specs.internal.Listed.{ids_on}
use Rattle.kept_steps.proofs.ListedIds.{adds-none, adds-step}
use Rattle.kept_steps.proofs.listing.add_parts.Goals as goal

pub loop-part-init : goal.loop-part-init
loop-part-init c = adds-none c.args.ids.now

pub loop-part-preserved : goal.loop-part-preserved
loop-part-preserved c = adds-step (ids_on c.args.side) c.args.parts.now c.loop-part.part-index c.part-item.result c.args.ids.now c.loop-part.ids c.add_part.new.ids (omega arith) c.part-item.is c.loop-part.invariant c.in_ok-add_part.ensures
