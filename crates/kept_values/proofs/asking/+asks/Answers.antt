use Rattle.formula_tree.proofs.RelativeNodes.{relative_list-trees}
use Rattle.kept_values.proofs.asking.+asks.Goals as goal

pub some_ask-arguments-init : goal.some_ask-arguments-init
some_ask-arguments-init t c = rw (c.items-argument-items.ensures, relative_list-trees c.args.list.now)
