use Rattle.formula_tree.proofs.SeenFromHome.{seen-back}
use Rattle.formula_tree.proofs.laws.a_tree_comes_back.Goals as goal

pub returns : goal.returns
returns c = λ home t p. seen-back home t p
