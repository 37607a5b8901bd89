use Rattle.formula_tree.proofs.ProperTrees.{spelled-listed}
use Rattle.formula_tree.proofs.laws.a_texts_sheets_are_listed.Goals as goal

pub returns : goal.returns
returns c = λ home find names text t n d. spelled-listed home find names text t n d
