use Rattle.std.proofs.Common.{ℕ, ◌∙◌, ap, arith, subst, ◌+◌, ◌-◌, ◌++◌, ◌∷◌, [], map}
use Rattle.std.specs.List.{range_with_len}
use Rattle.range_table.specs.internal.Rows.{GoesOn}
use Rattle.range_table.proofs.Sums.{cell_more, goes_further}
use Rattle.range_table.proofs.merging.with_row.Goals as goal

pub cols-preserved : goal.cols-preserved
cols-preserved g c =
    let i = c.cols.invariant in
    let b = c.args.b in
    let f = λ (col : ℕ). g.C.ListedCells.values c.args.cells.now (record { sheet = b.sheet; row = c.args.row; col = col }) in
    let col = c.cols.col in
    let n = col - b.left in
    let before = map f (range_with_len b.left n) in
    let merged = c.with_value-merged in record {
      goes_on = subst (GoesOn c.args.begun merged.result)
          (ap (λ x. before ++ x ∷ []) c.value.ensures ∙ cell_more f b.left n col (col + 1 - b.left) (omega (arith, i.from)) (omega (arith, i.from)))
          (goes_further c.args.begun c.cols.merged merged.result before (c.value.result.now ∷ []) i.goes_on merged.ensures.goes_on);
      count = omega (arith, merged.ensures.count, i.count, i.from);
      cells = omega (arith, merged.ensures.cells, i.cells, i.from);
      bounded = merged.ensures.bounded;
      steps = omega (arith, merged.ensures.steps, i.steps);
      from = omega (arith, i.from);
    }
