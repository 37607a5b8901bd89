use Rattle.calc_terms.proofs.Reading.{reads_needs}
use Rattle.calc_terms.proofs.laws.trees_read_their_needs.Goals as goal

pub returns : goal.returns
returns c = reads_needs
