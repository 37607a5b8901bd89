use Rattle.formula_tree.proofs.Exact.{text_reader-exact}
use Rattle.formula_tree.proofs.laws.text_reader_is_exact.Goals as goal

pub returns : goal.returns
returns c = λ home find text t. text_reader-exact home find text t
