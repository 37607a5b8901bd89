use Rattle.std.proofs.Common.{◌∙◌, sym, ap, arith, ◌+◌, ◌-◌, ◌++◌}
use Rattle.std.specs.List.{flat_map, range_with_len}
use Rattle.range_table.specs.Cells.{nonempty, row_values}
use Rattle.range_table.proofs.Sums.{nonempty-append, row_more}
use Rattle.call_bench.proofs.ranges.AlikeListedCells.listed.Goals as goal

pub rows-preserved : goal.rows-preserved
rows-preserved c =
    let i = c.rows.invariant in
    let b = c.args.b in
    let f = row_values (λ at. c.args.self.now.value) b in
    let row = c.rows.row in
    let n = row - b.top in record {
      listed = c.in_ok-list_row.ensures ∙ ap (λ xs. xs ++ nonempty (f row)) i.listed ∙ sym (nonempty-append (flat_map f (range_with_len b.top n)) (f row))
          ∙ ap nonempty (row_more f b.top n row (row + 1 - b.top) (omega (arith, i.from)) (omega (arith, i.from)));
      from = omega (arith, i.from);
    }
