use Rattle.std.proofs.Common.{◌∙◌, sym, ap, refl, ◌+◌}
use Rattle.cell_value.specs.Summary.{joined}
use Rattle.range_table.proofs.Sums.{goes_on_empty, goes_on_value}
use Rattle.range_table.proofs.merging.with_value.Goals as goal

pub returns-then-is_empty-clause-goes_on : goal.returns-then-is_empty-clause-goes_on
returns-then-is_empty-clause-goes_on g c = goes_on_empty c.args.begun c.args.value.now (sym c.is_empty.ensures ∙ c.if-is_empty.true)

pub returns-clause-goes_on : goal.returns-clause-goes_on
returns-clause-goes_on g c =
    goes_on_value c.args.begun (record { summary = c.join.result; cells = c.args.begun.cells + 1 }) c.args.value.now (sym c.is_empty.ensures ∙ c.if-is_empty.false)
    (c.join.ensures.joined ∙ ap (joined c.args.begun.summary) c.of.ensures.alone) refl
