use Rattle.tree_rewrite.proofs.CallerLemmas.{pastes-well}
use Rattle.tree_rewrite.proofs.laws.pasted_trees_are_sound.Goals as goal

pub returns : goal.returns
returns c = pastes-well
