use Rattle.std.proofs.Common.{◌∙◌, ap, sym, ◌*◌, arith, take, map}
use Rattle.std.proofs.lemmas.List.{take_all}
use Rattle.cell_value.specs.declared.area.Filled.{Filled}
use Rattle.cell_value.specs.Summary.{joined, alone, summary_of}
use Rattle.func_args.proofs.Walk.{value_of}
use Rattle.func_args.proofs.Summaries.{summary_none, summary_more, summary-filled}
use Rattle.func_args.proofs.list.area_summary.Goals as goal

pub cells-init : goal.cells-init
cells-init c = record { total = c.new-total.ensures.none ∙ sym summary_none; bounded = c.new-total.ensures.bounded }

pub cells-preserved : goal.cells-preserved
cells-preserved c =
    let cells = c.filled-cell-items.result.now in
    let item = ap (λ (cell : Filled). alone cell.value) c.cell-item.is in
    let more = summary_more cells c.cells.cell-index c.cell-item.result (omega arith) in
    record {
      total = c.in_ok-total.ensures.joined
          ∙ ap (λ s. joined s c.of.result) c.cells.invariant.total
          ∙ ap (joined (summary_of (map value_of (take c.cells.cell-index cells)))) (c.of.ensures.alone ∙ item)
          ∙ sym more;
      bounded = c.in_ok-total.ensures.bounded;
    }

pub returns-clause-summary : goal.returns-clause-summary
returns-clause-summary c =
    let cells = c.filled-cell-items.result.now in
    let all = take_all c.cells.cell-index cells (omega arith) in
    c.cells.invariant.total
    ∙ ap (λ xs. summary_of (map value_of xs)) all
    ∙ sym (summary-filled 0 (c.args.area.now.rows * c.args.area.now.cols) cells)
    ∙ ap summary_of (sym c.filled-cell-items.ensures.values)
