use Rattle.calc_terms.proofs.FunctionWords.{each-listed, each-names}
use Rattle.calc_terms.proofs.laws.words_are_functions.Goals as goal

pub returns : goal.returns
returns c = (each-names, each-listed)
