use Rattle.fix_num.proofs.PlainTexts.{number_of-text_of}
use Rattle.fix_num.proofs.laws.text_is_read_back.Goals as goal

pub returns : goal.returns
returns c = number_of-text_of
