use Rattle.formula_parse.proofs.CanonicalRead.{canonical-is-read}
use Rattle.formula_parse.proofs.laws.canonical_text_is_read.Goals as goal

pub returns : goal.returns
returns c = λ home find names t p l d. canonical-is-read home find names t p l d
