use Rattle.formula_tree.proofs.RelativeNodes.{relative_list-trees}
use Rattle.calc_terms.proofs.needs.+mentions.Goals as goal

pub some_mention-arguments-init : goal.some_mention-arguments-init
some_mention-arguments-init t c = rw (c.items-argument-items.ensures, relative_list-trees c.args.list.now)
