use Rattle.std.proofs.Common.{◌≡◌, ◌∙◌, ap, sym, ◌*◌, arith, get_or, take, true}
use Rattle.std.proofs.lemmas.List.{take_all}
use Rattle.cell_value.specs.declared.area.Filled.{Filled}
use Rattle.cell_value.specs.declared.scalar.Scalar.TheVariants.{Empty}
use Rattle.cell_value.specs.Summary.{joined, alone, summary_of}
use Rattle.func_args.proofs.Summaries.{summary_none}
use Rattle.func_math.specs.Criteria.{matches}
use Rattle.func_math.specs.SumIf.{chosen}
use Rattle.func_math.proofs.Chosen.{selected, selected_passing, chosen-filled}
use Rattle.func_math.proofs.sum_if.chosen.Goals as goal

pub cells-init : goal.cells-init
cells-init c = record { total = c.new-total.ensures.none ∙ sym summary_none; bounded = c.new-total.ensures.bounded }

pub cells-preserved : goal.cells-preserved
cells-preserved c =
    let cells = c.filled-cell-items.result.now in
    let p = matches c.args.criterion.now in
    let xs = c.args.tested.now.values in
    let passes : p (get_or xs (get_or cells c.cells.cell-index c.cell-item.result).index Empty) ≡ true =
    ap (λ (cell : Filled). p (get_or xs cell.index Empty)) (sym c.cell-item.is) ∙ sym c.matches_at.ensures ∙ c.if-not-matches_at.false in
    let more = selected_passing p xs cells c.cells.cell-index c.cell-item.result (omega arith) passes in
    record {
      total = c.in_ok-total.ensures.joined
          ∙ ap (λ s. joined s c.of.result) c.cells.invariant.total
          ∙ ap (joined (summary_of (selected p xs (take c.cells.cell-index cells)))) (c.of.ensures.alone ∙ ap (λ (cell : Filled). alone cell.value) c.cell-item.is)
          ∙ sym more;
      bounded = c.in_ok-total.ensures.bounded;
    }

pub returns : goal.returns
returns c =
    let cells = c.filled-cell-items.result.now in
    let size = c.args.summed.now.rows * c.args.summed.now.cols in
    let p = matches c.args.criterion.now in
    let xs = c.args.tested.now.values in
    let all = take_all c.cells.cell-index cells (omega arith) in
    c.cells.invariant.total
    ∙ ap (λ ys. summary_of (selected p xs ys)) all
    ∙ sym (chosen-filled p 0 size xs cells c.filled-cell-items.ensures.ordered (sym c.size-size.ensures.values ∙ (c.size-size.ensures.size ∙ c.requires)))
    ∙ ap (λ ys. summary_of (chosen p xs ys)) (sym c.filled-cell-items.ensures.values)
