use Rattle.std.proofs.Common.{◌∙◌, ◌&&◌, ap, eqb, not, sym}
use Rattle.needs_order.specs.Needs.{has}
use Rattle.node_links.specs.internal.Sets.{nodes_in}
use Rattle.node_links.proofs.NodeSets.{drop_has}
use Rattle.node_links.proofs.node_set.NodeSet.remove.Goals as goal

pub returns-in-More : goal.returns-in-More
returns-in-More c x = drop_has c.in-More.set c.remove.new.self c.args.node x c.remove.ensures.updates ∙ ap (λ s. has x (nodes_in s) && not (eqb x c.args.node)) (sym c.in-More.is)
