use Rattle.tree_rewrite.proofs.CallerLemmas.{comes_back-by_references}
use Rattle.tree_rewrite.proofs.laws.trees_come_back_by_references.Goals as goal

pub returns : goal.returns
returns c = comes_back-by_references
