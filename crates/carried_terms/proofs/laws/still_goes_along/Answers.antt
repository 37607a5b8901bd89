use Rattle.carried_terms.proofs.Still.{still_goes}
use Rattle.carried_terms.proofs.laws.still_goes_along.Goals as goal

pub returns : goal.returns
returns c = still_goes
