use Rattle.std.proofs.Common.{◌∙◌, ap}
use Rattle.std.proofs.lemmas.Result.{IfOk-weaker}
use Rattle.cell_value.specs.Summary.{summary_of}
use Rattle.range_table.specs.Cells.{block_values}
use Rattle.range_table.proofs.Rows.{begun_fits, joins}
use Rattle.range_table.proofs.summing.with_last_row.Goals as goal

pub with_block-requires-clause-few : goal.with_block-requires-clause-few
with_block-requires-clause-few g c = begun_fits (g.C.ListedCells.values c.args.cells.now) c.args.b c.args.above c.requires.inside c.requires.right

pub returns-clause-fold : goal.returns-clause-fold
returns-clause-fold g c =
    let values = g.C.ListedCells.values c.args.cells.now in
    let (rest, (is, sum)) = c.requires.right in
    IfOk-weaker c.with_block.result _ _ (λ merged sums. sums (block_values values rest) sum ∙ ap summary_of (joins values c.args.b rest is)) c.with_block.ensures.sums
