use Rattle.command_words.proofs.ProperWords.{proper}
use Rattle.command_words.proofs.laws.meanings_are_proper.Goals as goal

pub returns : goal.returns
returns c = λ words s h. proper words s h
