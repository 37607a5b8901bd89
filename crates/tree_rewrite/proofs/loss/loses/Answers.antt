use Rattle.formula_tree.specs.Relative.{relative}
use Rattle.formula_tree.specs.StandsFor.{at_home}
use Rattle.tree_rewrite.specs.Rewritten.{ComesBack}
use Rattle.tree_rewrite.proofs.NodesBack.{test-lost}
use Rattle.tree_rewrite.proofs.loss.loses.Goals as goal

pub returns-clause-loses : goal.returns-clause-loses
returns-clause-loses c = (test-lost (ComesBack c.args.s.now (at_home c.args.home (relative c.args.tree.now.value))) c.comes_back.result (rw c.deref.ensures at c.comes_back.ensures)).0

pub returns-clause-comes_back : goal.returns-clause-comes_back
returns-clause-comes_back c = (test-lost (ComesBack c.args.s.now (at_home c.args.home (relative c.args.tree.now.value))) c.comes_back.result (rw c.deref.ensures at c.comes_back.ensures)).1
