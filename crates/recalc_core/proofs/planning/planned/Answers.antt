use Rattle.std.proofs.Common.{◌∙◌, ap}
use Rattle.std.proofs.lemmas.Result.{IfOk-weaker}
use Rattle.dep_graph.specs.Graph.{links_of}
use Rattle.dep_graph.specs.Nodes.{has, items_of}
use Rattle.dep_graph.specs.Walks.{IsOrdered}
use Rattle.dep_graph.specs.declared.nodes.Nodes.{Nodes}
use Rattle.recalc_core.proofs.Planned.{same_order}
use Rattle.recalc_core.proofs.planning.planned.Goals as goal

pub returns : goal.returns
returns c = IfOk-weaker c.order.result _ (λ (order : Nodes). IsOrdered (links_of c.args.graph.now) (items_of c.args.nodes.now) (items_of order))
    (λ (order : Nodes) ordered. same_order _ _ _ _ (λ a. c.in_ok-falling.ensures a ∙ ap (has a) c.items.ensures) ordered)
    c.order.ensures
