use Rattle.script_lang.proofs.Named.{words_are_named}
use Rattle.script_lang.proofs.laws.words_are_named.Goals as goal

pub returns : goal.returns
returns c = words_are_named
