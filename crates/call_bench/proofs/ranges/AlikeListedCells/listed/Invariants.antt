use Rattle.std.proofs.Common.{◌≡◌, ◌-◌, ◌≤◌}
use Rattle.std.specs.List.{flat_map, range_with_len}
use Rattle.range_table.specs.Cells.{nonempty, row_values, seen_values}
use Rattle.call_bench.proofs.ranges.AlikeListedCells.listed.Given as goal

-- the rows before the row are listed
abbrev pub invariant-rows : goal.invariant-rows
invariant-rows l = record {
  listed : seen_values l.list.items ≡ nonempty (flat_map (row_values (λ at. l.self.value) l.b) (range_with_len l.b.top (l.row - l.b.top)));
  from : l.b.top ≤ l.row;
}
