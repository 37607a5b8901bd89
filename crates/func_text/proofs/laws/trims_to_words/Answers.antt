use Rattle.func_text.proofs.TrimmedWords.{trims_to_words}
use Rattle.func_text.proofs.laws.trims_to_words.Goals as goal

pub returns : goal.returns
returns c = trims_to_words
