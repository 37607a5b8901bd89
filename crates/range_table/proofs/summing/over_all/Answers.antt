use Rattle.std.proofs.Common.{◌∙◌, ap, arith, []}
use Rattle.std.proofs.lemmas.Result.{IfOk-weaker}
use Rattle.cell_value.specs.declared.summary.Summary.{Summary}
use Rattle.range_table.proofs.Rows.{cells_fit, nothing_yet}
use Rattle.range_table.proofs.summing.over_all.Goals as goal

pub with_block-requires-clause-few : goal.with_block-requires-clause-few
with_block-requires-clause-few g c =
    let fits = cells_fit c.args.b c.requires in
    let none = ap (λ (s : Summary). s.count) c.new.ensures.none in
    omega (arith, fits, none)

pub returns-clause-fold : goal.returns-clause-fold
returns-clause-fold g c = IfOk-weaker c.with_block.result _ _ (λ merged sums. sums [] (c.new.ensures.none ∙ nothing_yet)) c.with_block.ensures.sums
