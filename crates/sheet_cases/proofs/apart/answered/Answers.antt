-- A session can begin with one empty sheet.
use Rattle.std.proofs.Common.{◌∙◌, ap}
use Rattle.book_model.specs.Given.{given_sheets}
use Rattle.run_inputs.proofs.SheetsRead.{empty-can}
use Rattle.sheet_cases.proofs.apart.answered.Goals as goal

pub new-requires-clause-can : goal.new-requires-clause-can
new-requires-clause-can g c = rw (ap given_sheets c.deref.ensures.value ∙ c.in_ok-sheets.ensures) empty-can
