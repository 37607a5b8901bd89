use Rattle.tree_rewrite.proofs.CallerLemmas.{carried-comes_back}
use Rattle.tree_rewrite.proofs.laws.carried_trees_come_back.Goals as goal

pub returns : goal.returns
returns c = carried-comes_back
