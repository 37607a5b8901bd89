use Rattle.formula_parse.proofs.OnePlace.{one-place}
use Rattle.formula_parse.proofs.laws.no_text_goes_wrong_at_two.Goals as goal

pub returns : goal.returns
returns c = one-place
