use Rattle.formula_parse.proofs.OnePlace.{formulas-go-right}
use Rattle.formula_parse.proofs.laws.no_formula_goes_wrong.Goals as goal

pub returns : goal.returns
returns c = formulas-go-right
