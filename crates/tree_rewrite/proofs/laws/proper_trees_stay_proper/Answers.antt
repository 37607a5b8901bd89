use Rattle.tree_rewrite.proofs.CallerLemmas.{proper-stays}
use Rattle.tree_rewrite.proofs.laws.proper_trees_stay_proper.Goals as goal

pub returns : goal.returns
returns c = proper-stays
