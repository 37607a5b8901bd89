use Rattle.std.proofs.Common.{◌∙◌, ap, sym}
use Rattle.range_table.specs.internal.States.{is_found}
use Rattle.range_table.proofs.Numbers.{block_found, block_there}
use Rattle.range_table.proofs.kept.KeptSummaries.found_block.Goals as goal

pub returns-then-is_found-clause-some : goal.returns-then-is_found-clause-some
returns-then-is_found-clause-some c =
    let k = c.args.self.now in
    block_found k.table k.files k.stands k.found c.args.number c.block.result (sym (c.is_found.ensures ∙ ap is_found c.state.ensures) ∙ c.if-is_found.true) c.block.ensures

pub returns-then-is_found-clause-none : goal.returns-then-is_found-clause-none
returns-then-is_found-clause-none c = λ none.
    let k = c.args.self.now in
    absurd (block_there k.table k.stands c.args.number c.block.result (sym (c.is_found.ensures ∙ ap is_found c.state.ensures) ∙ c.if-is_found.true) c.block.ensures none)
