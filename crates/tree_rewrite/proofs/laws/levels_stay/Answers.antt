use Rattle.tree_rewrite.proofs.CallerLemmas.{levels-stay}
use Rattle.tree_rewrite.proofs.laws.levels_stay.Goals as goal

pub returns : goal.returns
returns c = levels-stay
