use Rattle.std.proofs.Common.{◌∙◌, sym, ap, ◌*◌, arith, map}
use Rattle.std.proofs.lemmas.List.{drop_all}
use Rattle.func_args.proofs.Walk.{value_of}
use Rattle.func_logic.specs.Tally.{no_truths}
use Rattle.func_logic.proofs.Tallies.{with_cells, filled_count}
use Rattle.func_logic.proofs.tally.of_area.Goals as goal

pub returns : goal.returns
returns c =
    let cells = c.filled-cell-items.result.now in
    let past = drop_all c.cells.cell-index cells (omega arith) in
    sym (ap (λ xs. with_cells (map value_of xs) c.cells.total) past)
    ∙ c.cells.invariant
    ∙ ap (λ f. f no_truths) (sym (filled_count 0 (c.args.area.now.rows * c.args.area.now.cols) cells))
    ∙ ap (λ xs. with_cells xs no_truths) (sym c.filled-cell-items.ensures.values)
