-- The rows before the one at hand are done, and it and all that follow are empty.
use Rattle.std.proofs.Common.{◌≡◌, true, drop}
use Rattle.std.specs.List.{list_all}
use Rattle.cell_value.specs.Scalar.{is_empty}
use Rattle.call_bench.proofs.area.column.Given as goal

abbrev pub invariant-rows : goal.invariant-rows
invariant-rows l = record {
  rows : l.area.rows ≡ l.rows;
  cols : l.area.cols ≡ 1;
  rest : list_all is_empty (drop l.row l.area.values) ≡ true;
}
