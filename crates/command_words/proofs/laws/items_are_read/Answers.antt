use Rattle.command_words.proofs.ItemMeanings.{given_mean}
use Rattle.command_words.proofs.laws.items_are_read.Goals as goal

pub returns : goal.returns
returns c = λ words g gives. given_mean words g gives
