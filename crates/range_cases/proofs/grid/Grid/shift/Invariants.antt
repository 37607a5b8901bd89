use Rattle.std.proofs.Common.{◌≡◌, ◌++◌, map, take, drop}
use Rattle.range_cases.specs.Grid.{moved_cell}
use Rattle.range_cases.proofs.grid.Grid.shift.Given as goal

-- the cells gone by are moved
abbrev pub invariant-cells : goal.invariant-cells
invariant-cells l = l.cell-items ≡ map (moved_cell l.s) (take l.cell-index l.initial.cell-items) ++ drop l.cell-index l.initial.cell-items
