use Rattle.formula_tree.proofs.AllMentions.{mentions-are_all}
use Rattle.formula_tree.proofs.laws.mentions_are_all.Goals as goal

pub returns : goal.returns
returns c = mentions-are_all
