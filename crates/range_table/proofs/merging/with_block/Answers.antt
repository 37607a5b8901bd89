use Rattle.std.proofs.Common.{◌∙◌, ap, arith, ◌++◌, length, List}
use Rattle.cell_value.specs.Summary.{summary_of}
use Rattle.cell_value.specs.declared.scalar.Scalar.{Scalar}
use Rattle.range_table.specs.Cells.{block_values, nonempty, seen_values}
use Rattle.range_table.proofs.Rows.{nonempty_fit}
use Rattle.range_table.proofs.Sums.{nonempty-again, seen_values-length, summary_of-among}
use Rattle.range_table.proofs.merging.with_block.Goals as goal

pub with_values-requires-clause-few : goal.with_values-requires-clause-few
with_values-requires-clause-few g c =
    let values = g.C.ListedCells.values c.args.cells.now in
    let list = ap seen_values c.deref.ensures.value ∙ c.in_ok-values.ensures in
    let long = seen_values-length c.deref.result.now in
    let same = ap (λ (xs : List Scalar). length xs) list in
    let fits = nonempty_fit values c.args.b in
    omega (arith, long, same, fits, c.requires.few)

pub returns-in_ok-values-clause-sums : goal.returns-in_ok-values-clause-sums
returns-in_ok-values-clause-sums g c =
    let list = ap seen_values c.deref.ensures.value ∙ c.in_ok-values.ensures in
    λ xs e. c.with_values.ensures.goes_on.sums xs e ∙ ap (λ ys. summary_of (xs ++ ys)) list ∙ summary_of-among xs (block_values (g.C.ListedCells.values c.args.cells.now) c.args.b)

pub returns-in_ok-values-clause-cells : goal.returns-in_ok-values-clause-cells
returns-in_ok-values-clause-cells g c =
    let list = ap seen_values c.deref.ensures.value ∙ c.in_ok-values.ensures in
    let same = ap (λ (xs : List Scalar). length (nonempty xs)) list ∙ ap (λ (xs : List Scalar). length xs) (nonempty-again (block_values (g.C.ListedCells.values c.args.cells.now) c.args.b)) in
    omega (arith, same, c.with_values.ensures.goes_on.cells)

pub returns-in_ok-values-clause-steps : goal.returns-in_ok-values-clause-steps
returns-in_ok-values-clause-steps g c =
    let list = ap seen_values c.deref.ensures.value ∙ c.in_ok-values.ensures in
    let same = ap (λ (xs : List Scalar). length (nonempty xs)) list ∙ ap (λ (xs : List Scalar). length xs) (nonempty-again (block_values (g.C.ListedCells.values c.args.cells.now) c.args.b)) in
    omega (arith, same, c.with_values.ensures.goes_on.cells, c.with_values.ensures.steps)
