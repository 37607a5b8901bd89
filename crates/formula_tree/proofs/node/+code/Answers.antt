use Rattle.std.proofs.Common.{refl}
use Rattle.formula_tree.proofs.RelativeNodes.{relative_list-trees}
use Rattle.formula_tree.proofs.node.+code.Goals as goal

pub TreeList::feed-arguments-init : goal.TreeList::feed-arguments-init
TreeList::feed-arguments-init g t c = rw (c.items-argument-items.ensures, relative_list-trees c.args.self.now) (λ rest. refl)
