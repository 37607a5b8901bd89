use Rattle.formula_tree.proofs.RelativeNodes.{relative_list-trees}
use Rattle.restored_values.proofs.lost.+lost.Goals as goal

pub some_has_lost-arguments-init : goal.some_has_lost-arguments-init
some_has_lost-arguments-init t c = rw (c.items-argument-items.ensures, relative_list-trees c.args.list.now)
