use Rattle.std.proofs.Common.{◌≡◌, map, drop}
use Rattle.func_args.proofs.Walk.{value_of}
use Rattle.func_math.specs.internal.Factors.{with_factors}
use Rattle.func_math.proofs.product.with_cells.Given as goal

abbrev pub invariant-cells : goal.invariant-cells
invariant-cells l = with_factors l.product (map value_of (drop l.cell-index l.cell-items)) ≡ with_factors l.fn.product l.area.values
