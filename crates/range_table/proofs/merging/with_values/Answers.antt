use Rattle.std.proofs.Common.{arith, subst, ◌∷◌, [], take}
use Rattle.range_table.specs.Cells.{seen_values}
use Rattle.range_table.specs.internal.Rows.{GoesOn}
use Rattle.range_table.proofs.Sums.{goes_further, goes_nowhere, value_more}
use Rattle.range_table.proofs.merging.with_values.Goals as goal

pub values-init : goal.values-init
values-init g c = record {
  goes_on = goes_nowhere c.args.begun;
  count = omega arith;
  cells = omega arith;
  bounded = c.requires.bounded;
  steps = omega arith;
}

pub values-preserved : goal.values-preserved
values-preserved g c =
    let i = c.values.invariant in
    let merged = c.with_value-merged in record {
      goes_on = subst (GoesOn c.args.begun merged.result) (value_more c.args.values.now c.values.value-index c.value-item.result c.values-test.true c.value-item.is)
          (goes_further c.args.begun c.values.merged merged.result (take c.values.value-index (seen_values c.args.values.now)) (c.value-item.result.now ∷ []) i.goes_on merged.ensures.goes_on);
      count = omega (arith, merged.ensures.count, i.count);
      cells = omega (arith, merged.ensures.cells, i.cells);
      bounded = merged.ensures.bounded;
      steps = omega (arith, merged.ensures.steps, i.steps);
    }
