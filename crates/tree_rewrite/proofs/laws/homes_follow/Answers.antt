use Rattle.tree_rewrite.proofs.CallerLemmas.{homes-follow}
use Rattle.tree_rewrite.proofs.laws.homes_follow.Goals as goal

pub returns : goal.returns
returns c = homes-follow
