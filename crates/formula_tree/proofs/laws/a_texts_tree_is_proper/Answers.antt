use Rattle.formula_tree.proofs.ProperTrees.{spelled-proper}
use Rattle.formula_tree.proofs.laws.a_texts_tree_is_proper.Goals as goal

pub returns : goal.returns
returns c = λ home find text t d. spelled-proper home find text t d
