-- The cells before the one at hand are filled, and it and all that follow are empty.
use Rattle.std.proofs.Common.{◌≡◌, ◌+◌, ◌*◌, true, drop}
use Rattle.std.specs.List.{list_all}
use Rattle.cell_value.specs.Scalar.{is_empty}
use Rattle.function_cases.proofs.block.filled.Given as goal

abbrev pub invariant-rows : goal.invariant-rows
invariant-rows l = record {
  rows : l.area.rows ≡ l.rows;
  cols : l.area.cols ≡ l.cols;
  rest : list_all is_empty (drop (l.row * l.cols) l.area.values) ≡ true;
}

abbrev pub invariant-cols : goal.invariant-cols
invariant-cols l = record {
  rows : l.area.rows ≡ l.rows;
  cols : l.area.cols ≡ l.cols;
  rest : list_all is_empty (drop (l.row * l.cols + l.col) l.area.values) ≡ true;
}
