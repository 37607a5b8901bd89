use Rattle.carried_terms.proofs.Meaning.{carried_means}
use Rattle.carried_terms.proofs.laws.carried_means_same.Goals as goal

pub returns : goal.returns
returns c = carried_means
