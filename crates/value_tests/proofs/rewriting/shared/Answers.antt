use Rattle.formula_tree.specs.Seen.{seen}
use Rattle.tree_rewrite.proofs.Inside.{fits-inside}
use Rattle.value_tests.proofs.rewriting.shared.Goals as goal

pub intern-requires-clause-places : goal.intern-requires-clause-places
intern-requires-clause-places c = fits-inside (seen c.args.tree.now) c.requires.fits
