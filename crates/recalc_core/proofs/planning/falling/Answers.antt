use Rattle.std.proofs.Common.{◌≡◌, ◌∙◌, sym, ap}
use Rattle.std.proofs.lemmas.List.Sorted.{list_any-IsPermutation}
use Rattle.std.proofs.lemmas.Result.{IfOk-weaker}
use Rattle.dep_graph.specs.Nodes.{has, items_of, same_node}
use Rattle.dep_graph.specs.declared.node.Node.{Node}
use Rattle.dep_graph.specs.declared.nodes.Nodes.{Nodes}
use Rattle.recalc_core.proofs.planning.falling.Goals as goal

pub returns : goal.returns
returns c = IfOk-weaker c.copied_nodes.result _ (λ (list : Nodes). (a : Node) → has a (items_of list) ≡ has a c.args.nodes.now)
    (λ (list : Nodes) is. λ a. ap (has a) (is ∙ c.as_slice.ensures.value) ∙ sym (list_any-IsPermutation (same_node a) _ _ c.in_ok-sort_by_key.ensures.permutation) ∙ ap (has a) c.in_ok-list.ensures.items)
    c.copied_nodes.ensures
