use Rattle.std.proofs.Common.{subst, arith}
use Rattle.std.specs.List.{flat_map}
use Rattle.kept_book.specs.declared.passing.Side.TheVariants as sides
use Rattle.kept_steps.specs.internal.Listed.{Adds, ids_of_step, ids_on}
use Rattle.kept_steps.proofs.ListedIds.{adds-none, adds-step}
use Rattle.kept_steps.proofs.listing.add_undone.Goals as goal

pub loop-entry-init : goal.loop-entry-init
loop-entry-init c = adds-none c.args.ids.now

pub loop-entry-preserved : goal.loop-entry-preserved
loop-entry-preserved c = adds-step (ids_of_step sides.After) c.args.steps.now c.loop-entry.entry-index c.entry-item.result c.args.ids.now c.loop-entry.ids c.add_parts.new.ids (omega arith) c.entry-item.is c.loop-entry.invariant (subst (λ ps. Adds (flat_map (ids_on sides.After) ps) c.loop-entry.ids c.add_parts.new.ids) c.as_slice.ensures.value c.in_ok-add_parts.ensures)
