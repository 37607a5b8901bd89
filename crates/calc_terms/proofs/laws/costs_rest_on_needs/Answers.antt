use Rattle.calc_terms.proofs.Reading.{costs_rest_on_needs}
use Rattle.calc_terms.proofs.laws.costs_rest_on_needs.Goals as goal

pub returns : goal.returns
returns c = costs_rest_on_needs
