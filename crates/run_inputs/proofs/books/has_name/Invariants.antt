use Rattle.std.proofs.Common.{◌≡◌, drop}
use Rattle.book_model.specs.Given.{given_sheets}
use Rattle.run_inputs.specs.Opening.{has_name}
use Rattle.run_inputs.proofs.books.has_name.Given as goal

abbrev pub invariant-sheets : goal.invariant-sheets
invariant-sheets l = has_name (given_sheets (drop l.sheet-index l.sheets)) l.name ≡ has_name (given_sheets l.sheets) l.name
