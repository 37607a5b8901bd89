use Rattle.std.proofs.Common.{◌≡◌, map, drop}
use Rattle.func_args.proofs.Walk.{value_of}
use Rattle.func_logic.specs.Tally.{no_truths}
use Rattle.func_logic.proofs.Tallies.{with_cells}
use Rattle.func_logic.proofs.tally.of_area.Given as goal

abbrev pub invariant-cells : goal.invariant-cells
invariant-cells l = with_cells (map value_of (drop l.cell-index l.cell-items)) l.total ≡ with_cells (map value_of l.cell-items) no_truths
