use Rattle.std.proofs.Common.{◌∙◌, ap, get_or, slice_set}
use Rattle.std.proofs.lemmas.List.Edits.{map_over_more}
use Rattle.range_cases.specs.Grid.{moved_cell}
use Rattle.range_cases.specs.declared.grid.Filled.{Filled}
use Rattle.range_cases.proofs.grid.Grid.shift.Goals as goal

pub cells-preserved : goal.cells-preserved
cells-preserved c =
    let i = c.cells.cell-index in
    let cells = c.cells.cell-items in
    ap (λ (x : Filled). slice_set cells i x) c.shift.ensures
    ∙ map_over_more (moved_cell c.args.s.now) c.deref_mut-cell-items.result.now cells i (get_or cells i c.cell-item.result) c.cells-test.true c.cells.invariant (ap (λ (d : Filled). get_or cells i d) c.cell-item.is)
