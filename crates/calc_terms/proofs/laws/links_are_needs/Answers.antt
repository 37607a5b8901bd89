use Rattle.calc_terms.proofs.LinkedPlaces.{mentions-links}
use Rattle.calc_terms.proofs.laws.links_are_needs.Goals as goal

pub returns : goal.returns
returns c = mentions-links
