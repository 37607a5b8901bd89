use Rattle.std.proofs.Common.{◌≡◌, drop}
use Rattle.range_cases.specs.Grid.{value_in}
use Rattle.range_cases.proofs.grid.Grid.value_at.Given as goal

abbrev pub invariant-cells : goal.invariant-cells
invariant-cells l = value_in (drop l.cell-index l.cell-items) l.at ≡ value_in l.cell-items l.at
