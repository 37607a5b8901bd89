use Rattle.std.proofs.Common.{◌∙◌, subst, ap, not, filter, map, List}
use Rattle.dep_graph.specs.Nodes.{has, items_of}
use Rattle.dep_graph.specs.Walks.{IsOrdered}
use Rattle.dep_graph.specs.declared.node.Node.{Node}
use Rattle.dep_graph.specs.declared.node.Node.TheVariants.{Cell}
use Rattle.dep_graph.proofs.Listing.{if_ok}
use Rattle.kept_values.specs.Values.{links_in}
use Rattle.kept_values.proofs.CyclicCells.{filtered_same, left_cyclic}
use Rattle.kept_values.proofs.values.Values.on_cycle.Goals as goal

pub returns : goal.returns
returns c =
    if_ok c.left_out.result _ _ c.left_out.ensures
    (λ left is test tells.
    let links = links_in c.args.self.now in
    let order = items_of c.in_ok-order.order in
    let places = c.args.places.now in
    let ordered = subst (λ (ns : List Node). IsOrdered links ns order) c.in_ok-nodes.ensures c.in_ok-order.ensures in
    is
    ∙ filtered_same (λ p. not (has (Cell p) c.in_ok-ordered.ordered.keys)) (λ p. not (has (Cell p) order)) (λ p. ap not (c.in_ok-ordered.ensures (Cell p) ∙ ap (has (Cell p)) c.items.ensures)) places
    ∙ left_cyclic links places order ordered test tells)
