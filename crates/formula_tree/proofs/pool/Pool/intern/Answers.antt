use Rattle.std.proofs.Common.{◌∙◌, ap}
use Rattle.formula_tree.specs.Relative.{relative}
use Rattle.formula_tree.specs.Seen.{seen}
use Rattle.formula_tree.proofs.SeenFromHome.{stands_for-from_home}
use Rattle.formula_tree.proofs.pool.Pool.intern.Goals as goal

pub returns-clause-stands_for : goal.returns-clause-stands_for
returns-clause-stands_for c =
    stands_for-from_home c.args.home c.in_ok-shared.shared (seen c.args.tree.now) c.requires.places
    (c.in_ok-shared.ensures.tree ∙ ap relative c.in_ok-own.ensures.ok ∙ c.in_ok-node.ensures)
