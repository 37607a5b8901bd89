use Rattle.command_words.proofs.MeantItems.{meant_once}
use Rattle.command_words.proofs.laws.options_stand_once.Goals as goal

pub returns : goal.returns
returns c = λ items behind are again. meant_once items behind are again
