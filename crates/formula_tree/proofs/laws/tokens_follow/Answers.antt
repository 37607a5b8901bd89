use Rattle.formula_tree.proofs.TokenSteps.{tokens_follow}
use Rattle.formula_tree.proofs.laws.tokens_follow.Goals as goal

pub returns : goal.returns
returns c = tokens_follow
