use Rattle.formula_tree.proofs.Exact.{reader-exact}
use Rattle.formula_tree.proofs.laws.reader_is_exact.Goals as goal

pub returns : goal.returns
returns c = λ home find tokens t. reader-exact home find tokens t
