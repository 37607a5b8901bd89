use Rattle.formula_tree.proofs.CanonicalText.{canonical-spells}
use Rattle.formula_tree.proofs.laws.canonical_text_spells.Goals as goal

pub returns : goal.returns
returns c = λ home find names t p l. canonical-spells home find names t p l
