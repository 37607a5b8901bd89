use Rattle.carried_terms.proofs.Needs.{needs_go}
use Rattle.carried_terms.proofs.laws.needs_follow.Goals as goal

pub returns : goal.returns
returns c = needs_go
