use Rattle.std.proofs.Common.{◌∙◌, sym}
use Rattle.session_values.proofs.values.SessionValues.operation_back.Goals as goal

pub sheet_back-requires-clause-form : goal.sheet_back-requires-clause-form
sheet_back-requires-clause-form c = sym c.form.ensures ∙ c.in-Sheet.is

pub block_back-requires-clause-form : goal.block_back-requires-clause-form
block_back-requires-clause-form c = sym c.form.ensures ∙ c.in-Cells.is
