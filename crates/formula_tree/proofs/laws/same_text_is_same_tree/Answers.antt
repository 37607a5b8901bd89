use Rattle.formula_tree.proofs.SameTexts.{same_text-same_tree}
use Rattle.formula_tree.proofs.laws.same_text_is_same_tree.Goals as goal

pub returns : goal.returns
returns c = λ home find names t u p l q m. same_text-same_tree home find names t u p l q m
