use Rattle.std.proofs.Common.{ap, fold}
use Rattle.formula_tree.specs.internal.Code.{fed_words, state_after}
use Rattle.formula_tree.proofs.code.feed_word.Goals as goal

pub returns : goal.returns
unfolding state_after
returns g c = λ rest. ap (λ state. fold g.H.Hasher.write state (fed_words rest)) c.write_u32.ensures
