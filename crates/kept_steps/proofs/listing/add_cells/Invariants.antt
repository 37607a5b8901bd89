use Rattle.std.proofs.Common.{take}
use Rattle.std.specs.List.{flat_map}
use Rattle.kept_steps.specs.internal.Listed.{Adds, id_in}
use Rattle.kept_steps.proofs.listing.add_cells.Given as goal

abbrev pub invariant-loop-cell : goal.invariant-loop-cell
invariant-loop-cell l = Adds (flat_map id_in (take l.cell-index l.cells)) l.fn.ids l.ids
