use Rattle.std.proofs.Common.{◌≡◌, ◌-◌, ◌≤◌, ◌++◌, map}
use Rattle.std.specs.List.{range_with_len}
use Rattle.range_table.specs.Cells.{nonempty, seen_values}
use Rattle.call_bench.proofs.ranges.Alike.list_row.Given as goal

-- the cells before the column are listed after what was there
abbrev pub invariant-cols : goal.invariant-cols
invariant-cols l = record {
  listed : seen_values l.list.items ≡ seen_values l.initial.list.items ++ nonempty (map (λ col. l.self.value) (range_with_len l.b.left (l.col - l.b.left)));
  from : l.b.left ≤ l.col;
}
