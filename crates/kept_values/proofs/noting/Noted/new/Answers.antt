use Rattle.kept_values.proofs.UnderWords.{nothing_under}
use Rattle.kept_values.proofs.noting.Noted.new.Goals as goal

pub returns-clause-seeking : goal.returns-clause-seeking
returns-clause-seeking c = nothing_under c.new-3.result c.new-3.ensures.empty
