use Rattle.std.proofs.Common.{◌∙◌, ap, [], fold}
use Rattle.formula_tree.specs.Relative.{relative}
use Rattle.formula_tree.specs.internal.Code.{fed_words, state_after, code}
use Rattle.formula_tree.proofs.entry.EntryHash.hash.Goals as goal

pub returns : goal.returns
unfolding state_after
returns g c = c.feed.ensures [] ∙ ap (λ node. fold g.H.Hasher.write c.args.state.now (fed_words (code (relative node) []))) c.deref.ensures
