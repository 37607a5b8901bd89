use Rattle.carried_terms.proofs.Blocks.{kept_follow}
use Rattle.carried_terms.proofs.laws.kept_blocks_follow.Goals as goal

pub returns : goal.returns
returns c = kept_follow
