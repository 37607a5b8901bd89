-- A session can begin with one empty sheet.
use Rattle.std.proofs.Common.{◌∙◌, ap}
use Rattle.book_model.specs.Given.{given_sheets}
use Rattle.run_inputs.proofs.SheetsRead.{empty-can}
use Rattle.short_memory.proofs.answer_input.Goals as goal

pub new-requires-2-clause-can : goal.new-requires-2-clause-can
new-requires-2-clause-can g c = rw (ap given_sheets c.deref.ensures.value ∙ c.in_ok-sheets.ensures) empty-can
