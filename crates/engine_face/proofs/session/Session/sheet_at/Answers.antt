use Rattle.std.proofs.Common.{◌∙◌, ap, ℕ, Option}
use Rattle.std.specs.Prelude.{unwrap_or}
use Rattle.cell_addr.specs.declared.place.TheConstants.{NO_SHEET}
use Rattle.engine_face.proofs.session.Session.sheet_at.Goals as goal

pub returns : goal.returns
returns c = λ d stands. c.unwrap_or.ensures ∙ ap (λ (o : Option ℕ). unwrap_or o NO_SHEET) (c.sheet_at.ensures d stands)
