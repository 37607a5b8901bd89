use Rattle.std.proofs.Common.{◌∙◌, sym, ap, ◌++◌, ◌∷◌, [], take}
use Rattle.range_table.specs.Cells.{nonempty}
use Rattle.range_table.proofs.Sums.{nonempty-append}
use Rattle.recalc_core.proofs.ListedValues.{value_more, values_of}
use Rattle.recalc_core.proofs.seen.nonempty.Goals as goal

pub cells-preserved : goal.cells-preserved
cells-preserved c =
    let cells = c.args.cells.now in
    let i = c.cells.cell-index in
    let value = c.cell-item.result.1.now in
    c.in_ok-add_nonempty.ensures
    ∙ ap (λ xs. xs ++ nonempty (value ∷ [])) c.cells.invariant
    ∙ sym (nonempty-append (take i (values_of cells)) (value ∷ []))
    ∙ ap nonempty (value_more cells i c.cell-item.result c.cells-test.true c.cell-item.is)
