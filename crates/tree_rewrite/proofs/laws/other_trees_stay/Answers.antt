use Rattle.tree_rewrite.proofs.CallerLemmas.{others-stay}
use Rattle.tree_rewrite.proofs.laws.other_trees_stay.Goals as goal

pub returns : goal.returns
returns c = others-stay
