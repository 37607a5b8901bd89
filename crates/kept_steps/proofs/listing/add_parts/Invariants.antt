use Rattle.std.proofs.Common.{take}
use Rattle.std.specs.List.{flat_map}
use Rattle.kept_steps.specs.internal.Listed.{Adds, ids_on}
use Rattle.kept_steps.proofs.listing.add_parts.Given as goal

abbrev pub invariant-loop-part : goal.invariant-loop-part
invariant-loop-part l = Adds (flat_map (ids_on l.side) (take l.part-index l.parts)) l.fn.ids l.ids
