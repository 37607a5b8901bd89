use Rattle.custom_fn.specs.Word.{is_function_word}
use Rattle.custom_fn.proofs.words.is_function_word.Goals as goal

pub returns : goal.returns
unfolding is_function_word
returns c = c.is_one_of.ensures
