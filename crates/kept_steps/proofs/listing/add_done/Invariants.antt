use Rattle.std.proofs.Common.{take}
use Rattle.std.specs.List.{flat_map}
use Rattle.kept_book.specs.declared.passing.Side.TheVariants as sides
use Rattle.kept_steps.specs.internal.Listed.{Adds, ids_of_step}
use Rattle.kept_steps.proofs.listing.add_done.Given as goal

abbrev pub invariant-loop-index : goal.invariant-loop-index
invariant-loop-index l = Adds (flat_map (ids_of_step sides.Before) (take l.index l.steps.done)) l.fn.ids l.ids
