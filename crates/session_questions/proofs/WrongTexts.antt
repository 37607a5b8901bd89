-- A text is a formula, or goes wrong at a part of it. Serves the question where it does.
use Rattle.std.proofs.Common.{◌≡◌, refl, ℕ, List, Option, None, Some}
use Rattle.std.specs.Prelude.{IfSome, MatchOption}
use Rattle.formula_parse.specs.Fronts.{GoesWrongAt, IsFormula}
use Rattle.formula_parse.specs.declared.wrong.TextSpan.{TextSpan}

pub wrong_or_none : (text : List ℕ) (found : Option TextSpan) → (found ≡ None → IsFormula text) → IfSome found (λ span. GoesWrongAt text span) → MatchOption found (IsFormula text) (GoesWrongAt text)
wrong_or_none text None formula wrong = formula refl
wrong_or_none text (Some span) formula wrong = wrong
