use Rattle.tree_rewrite.proofs.CallerLemmas.{proper-fit}
use Rattle.tree_rewrite.proofs.laws.proper_trees_fit.Goals as goal

pub returns : goal.returns
returns c = proper-fit
