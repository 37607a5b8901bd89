use Rattle.fix_num.proofs.PlainTexts.{plain-unsigned_text, negative_text}
use Rattle.fix_num.proofs.laws.text_is_plain.Goals as goal

pub returns : goal.returns
returns c = λ n inside. (plain-unsigned_text n inside, negative_text n)
