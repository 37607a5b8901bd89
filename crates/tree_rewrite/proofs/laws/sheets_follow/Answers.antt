use Rattle.tree_rewrite.proofs.CallerLemmas.{sheets-follow}
use Rattle.tree_rewrite.proofs.laws.sheets_follow.Goals as goal

pub returns : goal.returns
returns c = sheets-follow
