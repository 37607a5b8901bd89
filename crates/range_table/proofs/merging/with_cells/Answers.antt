use Rattle.std.proofs.Common.{◌≡◌, ap, arith, subst, suc, ◌+◌, ◌-◌, ◌*◌}
use Rattle.std.specs.List.{flat_map, range_with_len}
use Rattle.std.proofs.Math.Nat.{suc-mul}
use Rattle.cell_addr.specs.Place.{width}
use Rattle.range_table.specs.Cells.{row_values}
use Rattle.range_table.specs.internal.Rows.{GoesOn}
use Rattle.range_table.proofs.Sums.{goes_further, row_more}
use Rattle.range_table.proofs.merging.with_cells.Goals as goal

pub rows-preserved : goal.rows-preserved
rows-preserved g c =
    let i = c.rows.invariant in
    let b = c.args.b in
    let f = row_values (g.C.ListedCells.values c.args.cells.now) b in
    let row = c.rows.row in
    let n = row - b.top in
    let after : row + 1 - b.top ≡ suc n = omega (arith, i.from) in
    let next : (row + 1 - b.top) * width b ≡ suc n * width b = ap (λ k. k * width b) after in
    let more = suc-mul n (width b) in record {
      goes_on = subst (GoesOn c.args.begun c.with_row-merged.result) (row_more f b.top n row (row + 1 - b.top) (omega (arith, i.from)) (omega (arith, i.from)))
          (goes_further c.args.begun c.rows.merged c.with_row-merged.result (flat_map f (range_with_len b.top n)) (f row) i.goes_on c.with_row-merged.ensures.goes_on);
      count = omega (arith, c.with_row-merged.ensures.count, i.count, next, more);
      cells = omega (arith, c.with_row-merged.ensures.cells, i.cells, next, more);
      bounded = c.with_row-merged.ensures.bounded;
      steps = omega (arith, c.with_row-merged.ensures.steps, i.steps);
      from = omega (arith, i.from);
    }
