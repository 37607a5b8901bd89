use Rattle.formula_tree.proofs.Exact.{one-tree}
use Rattle.formula_tree.proofs.laws.no_text_spells_two.Goals as goal

pub returns : goal.returns
returns c = λ home find text t u d e. one-tree home find text t u d e
