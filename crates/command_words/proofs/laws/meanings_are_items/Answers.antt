use Rattle.command_words.proofs.MeantItems.{meant_items}
use Rattle.command_words.proofs.laws.meanings_are_items.Goals as goal

pub returns : goal.returns
returns c = λ words s h. meant_items words s h
