use Rattle.std.proofs.Common.{take}
use Rattle.std.specs.List.{flat_map}
use Rattle.kept_book.specs.declared.passing.Side.TheVariants as sides
use Rattle.kept_steps.specs.internal.Listed.{Adds, ids_of_step}
use Rattle.kept_steps.proofs.listing.add_undone.Given as goal

abbrev pub invariant-loop-entry : goal.invariant-loop-entry
invariant-loop-entry l = Adds (flat_map (ids_of_step sides.After) (take l.entry-index l.steps)) l.fn.ids l.ids
