use Rattle.tree_rewrite.proofs.CallerLemmas.{fit-stays}
use Rattle.tree_rewrite.proofs.laws.trees_stay_inside.Goals as goal

pub returns : goal.returns
returns c = fit-stays
